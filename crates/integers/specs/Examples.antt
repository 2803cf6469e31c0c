-- Worked examples.
use Rattle.std.specs.Prelude.{◌≡◌, ℕ, ◌+◌, ◌-◌, ◌^◌, true, false, pos, negsuc, Float}
use Rattle.std.specs.Float.{nan, inf, fin, binary64}
use Rattle.std.specs.Float.Ieee.{round}
use Rattle.integers.specs.Words.{to_int_32, number_of}
use Rattle.integers.specs.Bitwise.{bitwise_and, bitwise_or, bitwise_xor, bitwise_not}
use Rattle.integers.specs.Shifts.{left_shift, signed_right_shift, unsigned_right_shift}
use Rattle.integers.specs.Digits.{digit_count}

abbrev num : ℕ → Float
num n = number_of (pos n)

-- -1, -2 and so on are `negsuc 0`, `negsuc 1` and so on
unfoldable pub Examples : Type 0
Examples =
    (to_int_32 (num (2 ^ 31)) ≡ negsuc (2 ^ 31 - 1)) × (to_int_32 (num (2 ^ 32 + 5)) ≡ pos 5) × (to_int_32 (num (2 ^ 64 + 4096)) ≡ pos 4096)
    × (to_int_32 (round binary64 true 19 10) ≡ negsuc 0) × (to_int_32 nan ≡ pos 0) × (to_int_32 (inf false) ≡ pos 0) × (to_int_32 (inf true) ≡ pos 0)
    × (left_shift (num 1) (num 31) ≡ number_of (negsuc (2 ^ 31 - 1))) × (left_shift (num 1) (num 33) ≡ num 2)
    × (signed_right_shift (number_of (negsuc 4)) (num 1) ≡ number_of (negsuc 2)) × (unsigned_right_shift (number_of (negsuc 0)) (num 0) ≡ num 4294967295)
    × (bitwise_and (num 12) (num 10) ≡ num 8) × (bitwise_or (num 12) (num 10) ≡ num 14) × (bitwise_xor (num 12) (number_of (negsuc 0)) ≡ number_of (negsuc 12))
    × (bitwise_not nan ≡ number_of (negsuc 0)) × (bitwise_or (fin true 0 (pos 0)) (num 0) ≡ num 0)
    × (digit_count (num 0) ≡ 1) × (digit_count (fin true 0 (pos 0)) ≡ 2) × (digit_count (num 999) ≡ 3) × (digit_count (num 1000) ≡ 4) × (digit_count (num (10 ^ 30)) ≡ 23)
