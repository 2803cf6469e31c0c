use Rattle.template.proofs.Parts.{is_raw, no_raw}
use Rattle.template.proofs.worked.worked_examples.Goals as goal

pub returns : goal.returns
returns c = search (is_raw, no_raw)
