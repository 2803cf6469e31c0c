-- Decimal integers, and how far they count.
use Rattle.std.specs.Prelude.{ℕ, ◌+◌, ◌-◌, ◌*◌, min, cond, List, [], ◌∷◌, Some, None, Option}
use Rattle.std.specs.Option.{option_map}
use Rattle.std.specs.Char.{is_ascii_digit}

-- the number that the digits write, after those of n
abbrev pub value_after : ℕ → List ℕ → Option ℕ
value_after n [] = Some n
value_after n (c ∷ cs) = cond (is_ascii_digit c) (value_after (n * 10 + (c - 48)) cs) None

-- one digit or more, and nothing else
abbrev pub integer_of : List ℕ → Option ℕ
integer_of [] = None
integer_of (c ∷ cs) = value_after 0 (c ∷ cs)

-- An integer past the largest of a type counts as that.
abbrev pub integer_to : ℕ → List ℕ → Option ℕ
integer_to most w = option_map (λ n. min n most) (integer_of w)

-- the integer that stands first, as far as it counts
abbrev pub counted_to : ℕ → Option (List ℕ) → Option ℕ
counted_to most None = None
counted_to most (Some w) = integer_to most w
