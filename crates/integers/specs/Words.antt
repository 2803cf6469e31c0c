-- ToInt32 and ToUint32 of a Number. ECMA-262, 7.1.6 and 7.1.7.
use Rattle.std.specs.Prelude.{ℕ, ◌-◌, ◌*◌, ◌/◌, ◌%◌, ◌^◌, Bool, cond, ℤ, pos, negsuc, ◌-ℤ◌, neg_ℤ, nat_le, Float}
use Rattle.std.specs.Float.{nan, inf, fin, binary64}
use Rattle.std.specs.Float.Ieee.{up, down, of_int}

-- 5.2.5: x modulo y, for a y above 0
abbrev pub modulo : ℤ → ℕ → ℕ
modulo (pos n) y = n % y
modulo (negsuc n) y = y - 1 - n % y

-- the size of m * 2 ^ e, without its fraction
abbrev pub whole : ℕ → ℤ → ℕ
whole m e = m * up e / down e

-- 5.2.5: truncate, which removes the fraction, and rounds towards zero
abbrev pub truncate : Bool → ℕ → ℤ → ℤ
truncate s m e = cond s (neg_ℤ (pos (whole m e))) (pos (whole m e))

-- 7.1.7 ToUint32: 0 for what is not finite, and else truncate(number) modulo 2 ^ 32
unfoldable pub to_uint_32 : Float → ℕ
to_uint_32 nan = 0
to_uint_32 (inf s) = 0
to_uint_32 (fin s m e) = modulo (truncate s m e) (2 ^ 32)

-- the integer that 32 bits stand for in two's complement: from 2 ^ 31 on, less 2 ^ 32
abbrev pub signed : ℕ → ℤ
signed n = cond (nat_le (2 ^ 31) n) (pos n -ℤ pos (2 ^ 32)) (pos n)

-- 7.1.6 ToInt32
unfoldable pub to_int_32 : Float → ℤ
to_int_32 x = signed (to_uint_32 x)

-- the Number of an integer
abbrev pub number_of : ℤ → Float
number_of z = of_int binary64 z

-- the size of a number, truncated, modulo 2 ^ 32
unfoldable pub size_modulo : Float → ℕ
size_modulo nan = 0
size_modulo (inf s) = 0
size_modulo (fin s m e) = whole m e % 2 ^ 32
