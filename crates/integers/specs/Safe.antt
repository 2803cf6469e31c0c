-- Safe integers. ECMA-262, 21.1.2.5: an integral Number whose size is at most 2 ^ 53 - 1.
use Rattle.std.specs.Prelude.{◌≡◌, ◌-◌, ◌*◌, ◌%◌, ◌^◌, ◌<◌, cond, ◌&&◌, T, pos, Some, None, Option, ◌==◌, nat_le, Float}
use Rattle.std.specs.Float.{nan, inf, fin, binary64}
use Rattle.std.specs.Float.Ieee.{up, down, neg, fits}
use Rattle.integers.specs.declared.safe.Integer.{Integer}
use Rattle.integers.specs.Words.{whole, number_of}

unfoldable pub safe : Float → Option Integer
safe nan = None
safe (inf s) = None
safe (fin s m e) = cond (m * up e % down e == 0 && nat_le (whole m e) (2 ^ 53 - 1)) (Some (record { negative = s; size = whole m e })) None

-- the Number nearest to an integer, which for a safe one is its own
unfoldable pub made : Integer → Float
made n = cond n.negative (neg (number_of (pos n.size))) (number_of (pos n.size))

-- the two are inverse: -0 is the negative integer of size 0
abbrev pub SafeMade : Type 0
SafeMade = (x : Float) (n : Integer) → T (fits binary64 x) → safe x ≡ Some n → made n ≡ x

abbrev pub MadeSafe : Type 0
MadeSafe = (n : Integer) → n.size < 2 ^ 53 → safe (made n) ≡ Some n
