-- How many characters a Number's integer part takes in decimal.
use Rattle.std.specs.Prelude.{ℕ, zero, suc, ◌+◌, ◌^◌, ◌<◌, ◌≤◌, Bool, cond, nat_le, Float}
use Rattle.std.specs.Float.{nan, inf, fin}
use Rattle.integers.specs.Words.{whole}

-- how many j from 1 to k there are with 10 ^ j at most n
unfoldable pub tens : ℕ → ℕ → ℕ
tens zero n = 0
tens (suc k) n = tens k n + cond (nat_le (10 ^ suc k) n) 1 0

-- the decimal digits of n: at least 1, and from 10 ^ 22 on 23
abbrev pub digits : ℕ → ℕ
digits n = tens 22 n + 1

abbrev pub minus : Bool → ℕ
minus s = cond s 1 0

-- `NaN` and `Infinity` are counted as they are written; -0 has a minus
unfoldable pub digit_count : Float → ℕ
digit_count nan = 3
digit_count (inf s) = 8 + minus s
digit_count (fin s m e) = digits (whole m e) + minus s

-- below 10 ^ 22, d digits write the numbers under 10 ^ d, and one digit less would not do, but for 0
abbrev pub Lengths : Type 0
Lengths = (n : ℕ) → n < 10 ^ 22 → (n < 10 ^ digits n) × (0 < n → 10 ^ tens 22 n ≤ n)
