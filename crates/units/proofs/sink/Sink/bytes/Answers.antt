use Rattle.std.proofs.Common.{arith}
use Rattle.units.proofs.Sinks.{puts_byte}
use Rattle.units.proofs.sink.Sink.bytes.Goals as goal

pub loop-b-preserved : goal.loop-b-preserved
loop-b-preserved c = puts_byte c.args.bs.now c.loop-b.b-index (omega arith) c.loop-b.invariant c.byte.ensures
