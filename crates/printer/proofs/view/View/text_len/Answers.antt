use Rattle.std.proofs.Common.{◌∙◌}
use Rattle.units.proofs.Sinks.{puts_count}
use Rattle.printer.proofs.view.View.text_len.Goals as goal

pub returns : goal.returns
returns g c = c.len.ensures ∙ puts_count c.over-counter.ensures.state c.node.ensures
