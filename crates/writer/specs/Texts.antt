-- The texts of the two writers.
use Rattle.std.specs.Prelude.{ℕ, zero, suc, ◌/◌, ◌%◌, ◌^◌, cond, ◌&&◌, List, ◌++◌, Some, None, codes, decimal, Option, ◌==◌, nat_lt, Float}
use Rattle.std.specs.Float.{binary64}
use Rattle.std.specs.Float.Ieee.{fits, in_unsigned, to_unsigned}
use Rattle.std.specs.Option.{option_map}

-- The integer from 0 to 2 ^ 53 - 1 that x is, for an x of the format. `in_unsigned` asks that x is finite, has no fraction and no
-- minus sign, and is below 2 ^ 53. So -0 is none.
abbrev pub integer : Float → Option ℕ
integer x = cond (fits binary64 x && in_unsigned binary64 53 x) (Some (to_unsigned 53 x)) None

-- how many zeros the digits of n end in, counted up to k; the one digit of 0 is not such a zero
unfoldable pub final_zeros : ℕ → ℕ → ℕ
final_zeros zero n = 0
final_zeros (suc k) n = cond (nat_lt 0 n && n % 10 == 0) (suc (final_zeros k (n / 10))) 0

-- the text of n, which has z final zeros: three or more become `e` and their count
abbrev pub shortened : ℕ → ℕ → List ℕ
shortened n z = cond (nat_lt z 3) (decimal n) (decimal (n / 10 ^ z) ++ (codes "e" ++ decimal z))

abbrev pub plain_text : Float → Option (List ℕ)
plain_text x = option_map decimal (integer x)

-- an integer below 2 ^ 53 has at most 16 digits
abbrev pub short_decimal : ℕ → List ℕ
short_decimal n = shortened n (final_zeros 16 n)

abbrev pub short_text : Float → Option (List ℕ)
short_text x = option_map short_decimal (integer x)
