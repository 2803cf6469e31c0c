-- Hex digits, their values and their bounds.
use Rattle.std.proofs.Common.{◌≡◌, ℕ, ◌+◌, ◌*◌, ◌^◌, ◌<◌, true, false, eqb, leb, ltb, List, Some, None, arith}
use Rattle.std.proofs.Math.Nat.{pow-suc}
use Rattle.std.proofs.lemmas.Bool.Decides.{nat_tests}
use Rattle.template.specs.Raw.{hex_value, Hex}
use Rattle.template.specs.Raw.Hex.{no_digit, one_more}

pub hex_below : (u m : ℕ) → hex_value u ≡ Some m → m < 16
hex_below u m e = grind (arith, nat_tests)

-- where the next unit is none of the digits
pub hex_other : (u w m : ℕ) → hex_value w ≡ None → hex_value u ≡ Some m → eqb u w ≡ false
hex_other u w m none some = grind (arith, nat_tests)

below_power : {n v : ℕ} {s r : List ℕ} → Hex n s v r → v < 16 ^ n
below_power no_digit = omega arith
below_power (one_more {n = n} {u = u} {m = m} d e) = omega (arith, hex_below u m e, below_power d, pow-suc 16 n)

-- two or four digits make a unit
pub two_below : {s r : List ℕ} {v : ℕ} → Hex 2 s v r → ltb v 0x10000 ≡ true
two_below d = grind (arith, nat_tests, below_power)

pub four_below : {s r : List ℕ} {v : ℕ} → Hex 4 s v r → ltb v 0x10000 ≡ true
four_below d = grind (arith, nat_tests, below_power)

-- a value within the code points was so before its last digit
pub leb_shorter : (v m limit : ℕ) → leb (v * 16 + m) limit ≡ true → leb v limit ≡ true
leb_shorter v m limit h = grind (arith, nat_tests)

pub leb_below : (v : ℕ) → ltb v 0x10000 ≡ true → leb v 0x10FFFF ≡ true
leb_below v h = grind (arith, nat_tests)
