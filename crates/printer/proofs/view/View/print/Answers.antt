use Rattle.std.proofs.Common.{◌≡◌, ◌^◌, ◌<◌, ◌++◌, length, drop, sym, ap, ◌∙◌, arith, rules}
use Rattle.units.proofs.Sinks.{puts_fits}
use Rattle.forms.specs.Printed.{printed}
use Rattle.printer.specs.Views.{expr_in}
use Rattle.printer.proofs.view.View.print.Goals as goal

pub returns : goal.returns
returns g c =
    let text = printed g.W.NumberWriter.text (expr_in c.args.self.now c.args.n) in
    let small : length c.args.out.now < 2 ^ 63 = omega arith in
    let exact : c.text_len-len.result ≡ length text = omega arith in
    let after = puts_fits c.over-sink.ensures.state c.node.ensures (omega arith) (omega arith) ∙ ap (λ k. text ++ drop k c.args.out.now) (sym exact) in
    (exact, c.if-len-out.false, search rules)
