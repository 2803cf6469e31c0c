-- What holds of the operators whatever their operands are.
use Rattle.std.specs.Prelude.{◌≡◌, ℕ, ◌+◌, ◌*◌, ◌^◌, ◌<◌, ℤ, pos, negsuc, Float}
use Rattle.integers.specs.Words.{modulo, to_int_32, number_of}

-- `modulo` by 2 ^ 32 is a remainder: below 2 ^ 32, and the integer less a multiple of 2 ^ 32
abbrev pub Remainder : ℤ → ℕ → Type 0
Remainder (pos n) r = (r < 2 ^ 32) × ((q : ℕ) × (n ≡ q * 2 ^ 32 + r))
Remainder (negsuc n) r = (r < 2 ^ 32) × ((q : ℕ) × (n + 1 + r ≡ q * 2 ^ 32))

abbrev pub Modulo : Type 0
Modulo = (z : ℤ) → Remainder z (modulo z (2 ^ 32))

abbrev pub Associates : (Float → Float → Float) → Type 0
Associates op = (x y z : Float) → op (op x y) z ≡ op x (op y z)

-- the integers of 32 bits, from -2 ^ 31 to 2 ^ 31 - 1
abbrev pub Int32 : ℤ → Type 0
Int32 (pos n) = n < 2 ^ 31
Int32 (negsuc n) = n < 2 ^ 31

-- with n on its right the operator gives ToInt32 of its left operand, and leaves the Number of a 32-bit integer as it is
pub record Neutral (op : Float → Float → Float) (n : ℕ) : Type 0 where
  pub converts : (x : Float) → op x (number_of (pos n)) ≡ number_of (to_int_32 x)
  pub keeps : (z : ℤ) → Int32 z → op (number_of z) (number_of (pos n)) ≡ number_of z
