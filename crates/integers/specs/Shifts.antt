-- The shifts of Numbers. ECMA-262, 6.1.6.1.9 to 6.1.6.1.11.
use Rattle.std.specs.Prelude.{ℕ, ◌*◌, ◌/◌, ◌%◌, ◌^◌, ℤ, pos, negsuc, Float}
use Rattle.integers.specs.Words.{signed, to_int_32, to_uint_32, number_of}
use Rattle.integers.specs.Bitwise.{bits}

-- ToUint32 of the right operand, modulo 32
unfoldable pub shift_count : Float → ℕ
shift_count y = to_uint_32 y % 32

-- a sign-extending shift: z / 2 ^ k, rounded down
abbrev pub extended : ℤ → ℕ → ℤ
extended (pos n) k = pos (n / 2 ^ k)
extended (negsuc n) k = negsuc (n / 2 ^ k)

-- 6.1.6.1.9 Number::leftShift: the bits that pass the 32nd are dropped
unfoldable pub left_shift : Float → Float → Float
left_shift x y = number_of (signed (bits (to_int_32 x) * 2 ^ shift_count y % 2 ^ 32))

-- 6.1.6.1.10 Number::signedRightShift
unfoldable pub signed_right_shift : Float → Float → Float
signed_right_shift x y = number_of (extended (to_int_32 x) (shift_count y))

-- 6.1.6.1.11 Number::unsignedRightShift: a zero-filling shift
unfoldable pub unsigned_right_shift : Float → Float → Float
unsigned_right_shift x y = number_of (pos (to_uint_32 x / 2 ^ shift_count y))
