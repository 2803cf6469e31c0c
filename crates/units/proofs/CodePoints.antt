-- A loop over the code points of a text.
use Rattle.std.proofs.Common.{◌≡◌, ℕ, List, [], ◌∷◌, ◌++◌, sym, ap, ◌∙◌, append-nil}
use Rattle.std.specs.Iterator.{Yields}
use Rattle.units.specs.declared.code_point.CodePoints.{CodePoints}
use Rattle.units.specs.CodePoints.{code_points, code_points_left, GivesCodePoint}

-- what was given, and what is left
given : (s : CodePoints) (xs : List ℕ) (t : CodePoints) → Yields GivesCodePoint s xs t → code_points_left s ≡ xs ++ code_points_left t
given s [] t y = ap code_points_left y
given s (x ∷ xs) t (j, step, y) = step.0 ∙ ap (λ r. x ∷ r) (given j xs t y)

-- at the end all was given
pub all_given : (us : List ℕ) (s : CodePoints) (xs : List ℕ) (t : CodePoints) → code_points_left s ≡ code_points us → Yields GivesCodePoint s xs t → code_points_left t ≡ [] → xs ≡ code_points us
all_given us s xs t start y end = sym (append-nil xs) ∙ ap (λ r. xs ++ r) (sym end) ∙ sym (given s xs t y) ∙ start
