-- The bitwise operators on Numbers. ECMA-262, 6.1.6.1.2 and 6.1.6.1.16 to 6.1.6.1.19.
use Rattle.std.specs.Prelude.{ℕ, ◌^◌, ℤ, pos, negsuc, bit_and, bit_or, bit_xor, Float}
use Rattle.integers.specs.Words.{modulo, signed, to_int_32, number_of}

-- the 32-bit two's complement bit string of an integer, as the number that has these binary digits
abbrev pub bits : ℤ → ℕ
bits z = modulo z (2 ^ 32)

-- every bit the other way: -z - 1
abbrev pub complement : ℤ → ℤ
complement (pos n) = negsuc n
complement (negsuc n) = pos n

-- 6.1.6.1.2 Number::bitwiseNOT
unfoldable pub bitwise_not : Float → Float
bitwise_not x = number_of (complement (to_int_32 x))

-- 6.1.6.1.16 NumberBitwiseOp
unfoldable pub number_bitwise_op : (ℕ → ℕ → ℕ) → Float → Float → Float
number_bitwise_op op x y = number_of (signed (op (bits (to_int_32 x)) (bits (to_int_32 y))))

-- 6.1.6.1.17 Number::bitwiseAND
abbrev pub bitwise_and : Float → Float → Float
bitwise_and = number_bitwise_op bit_and

-- 6.1.6.1.18 Number::bitwiseXOR
abbrev pub bitwise_xor : Float → Float → Float
bitwise_xor = number_bitwise_op bit_xor

-- 6.1.6.1.19 Number::bitwiseOR
abbrev pub bitwise_or : Float → Float → Float
bitwise_or = number_bitwise_op bit_or
