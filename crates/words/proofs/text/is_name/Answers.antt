use Rattle.std.proofs.Common.{refl, rules}
use Rattle.words.specs.Examples.{Examples}
use Rattle.words.specs.Words.{reserved}
use Rattle.words.proofs.text.is_name.Goals as goal

worked : Examples
unfolding Examples reserved
worked = (refl, refl, refl, refl, refl, refl, refl, refl, refl, refl, refl, refl, refl, refl, refl, refl, refl, refl, refl, refl, refl)

pub returns-then-is_identifier : goal.returns-then-is_identifier
returns-then-is_identifier c = record { decides = search rules; examples = worked }

pub returns-else-is_identifier : goal.returns-else-is_identifier
returns-else-is_identifier c = record { decides = search rules; examples = worked }
