use Rattle.std.proofs.Common.{sym, ap}
use lib.Utf8.{encodes}
use Rattle.units.proofs.CodePoints.{all_given}
use Rattle.units.proofs.Sinks.{puts_is, ◌⨾◌}
use Rattle.forms.specs.Quoted.{escapes}
use Rattle.forms.proofs.Escapes.{escapes-push, quoted_bytes}
use Rattle.forms.proofs.quote.quote.Goals as goal

pub loop-point-preserved : goal.loop-point-preserved
loop-point-preserved c = puts_is (c.loop-point.invariant ⨾ c.escape.ensures) (sym (escapes-push c.loop-point.yielded c.in-Some.point))

pub returns : goal.returns
returns c =
    let all = ap (λ cs. encodes (escapes cs)) (all_given c.args.text.now _ c.loop-point.yielded _ (cc) c.loop-point.yielded_by c.in-None.ensures.steps.0.0) in
    puts_is (c.byte.ensures ⨾ puts_is c.loop-point.invariant all ⨾ c.byte-2.ensures) (sym (quoted_bytes c.args.text.now))
