-- The words of a line of a script.
use Rattle.std.specs.Prelude.{ℕ, Bool, true, cond, List, [], ◌∷◌, Some, None, Option, ◌==◌}
use Rattle.std.specs.List.{before_first}
use Rattle.std.specs.List as Lists

-- Spaces separate the words.
abbrev pub unspaced : List ℕ → List ℕ
unspaced [] = []
unspaced (c ∷ cs) = cond (c == 32) (unspaced cs) (c ∷ cs)

-- A `#` where a word could begin makes the rest a comment.
abbrev pub over : List ℕ → Bool
over [] = true
over (c ∷ cs) = c == 35

abbrev pub blank : List ℕ → Bool
blank s = over (unspaced s)

abbrev pub is_space : ℕ → Bool
is_space c = c == 32

abbrev pub first_word : List ℕ → Option (List ℕ)
first_word s = cond (blank s) None (Some (before_first is_space (unspaced s)))

abbrev pub after_first : List ℕ → List ℕ
after_first s = cond (blank s) s (Lists.after_first is_space (unspaced s))
