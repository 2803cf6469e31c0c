use lib.Utf8.{encodes}
use Rattle.units.specs.Sinks.{Puts}
use Rattle.units.proofs.sink.Sink.units.Given as goal

abbrev pub invariant-loop-point : goal.invariant-loop-point
invariant-loop-point l = Puts l.fn.self (encodes l.yielded) l.self
