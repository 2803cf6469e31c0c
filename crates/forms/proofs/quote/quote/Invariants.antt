use lib.Utf8.{encodes}
use Rattle.units.specs.Sinks.{Puts}
use Rattle.forms.specs.Quoted.{escapes}
use Rattle.forms.proofs.quote.quote.Given as goal

abbrev pub invariant-loop-point : goal.invariant-loop-point
invariant-loop-point l = Puts l.initial.sink (encodes (escapes l.yielded)) l.sink
