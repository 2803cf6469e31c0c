use Rattle.std.proofs.Common.{Some, None, subst}
use lib.Ieee.{Float}
use Rattle.writer.specs.Writers.{Wrote}
use Rattle.printer.proofs.Texts.{gives}
use Rattle.printer.proofs.view.View.number.Goals as goal

pub returns-in-Some : goal.returns-in-Some
returns-in-Some g c =
    let w = g.W.NumberWriter.text in
    let laws = g.met.W.NumberWriter in
    let h = subst (λ (y : Float). Wrote (w y) (Some c.in-Some.text)) c.abs.ensures.value c.in-Some.ensures in
    c.number.ensures.text w (rw (c.as_bytes.ensures.value, c.as_str.ensures.value) (gives w laws.zero laws.one laws.exact c.args.x (Some c.in-Some.text) h))

pub returns-in-None : goal.returns-in-None
returns-in-None g c =
    let w = g.W.NumberWriter.text in
    let laws = g.met.W.NumberWriter in
    let h = subst (λ (y : Float). Wrote (w y) None) c.abs.ensures.value c.in-None.ensures in
    c.number-in-None.ensures.text w (gives w laws.zero laws.one laws.exact c.args.x None h)
