use Rattle.std.proofs.Common.{take}
use Rattle.units.specs.Sinks.{Puts}
use Rattle.units.proofs.sink.Sink.bytes.Given as goal

abbrev pub invariant-loop-b : goal.invariant-loop-b
invariant-loop-b l = Puts l.fn.self (take l.b-index l.bs) l.self
