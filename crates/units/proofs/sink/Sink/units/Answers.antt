use Rattle.std.proofs.Common.{ap}
use lib.Utf8.{encodes}
use Rattle.units.proofs.CodePoints.{all_given}
use Rattle.units.proofs.Sinks.{puts_is, puts_code_point}
use Rattle.units.proofs.sink.Sink.units.Goals as goal

pub loop-point-preserved : goal.loop-point-preserved
loop-point-preserved c = puts_code_point c.loop-point.yielded c.in-Some.point c.loop-point.invariant (c.code_point.ensures.encoded c.in-Some.ensures.steps.1)

pub returns : goal.returns
returns c = puts_is c.loop-point.invariant (ap encodes (all_given c.args.us.now _ c.loop-point.yielded _ (cc) c.loop-point.yielded_by c.in-None.ensures.steps.0.0))
