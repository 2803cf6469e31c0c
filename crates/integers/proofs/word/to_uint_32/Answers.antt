use Rattle.std.proofs.Common.{◌≡◌, ℕ, zero, suc, ◌-◌, ◌*◌, ◌/◌, ◌%◌, ◌^◌, true, false, T, pos, neg_ℤ, sym, refl, ap, ◌∙◌, subst, true≢false, arith, ltb-false, ltb-true}
use native.Mathlib.Nat.{zero-div}
use lib.Ieee.{Float, nan, inf, fin, binary64, up, down, lt, fits, of_bits, to_bits}
use lib.Ieee.Bits.{of_bits-to_bits}
use Rattle.integers.specs.Words.{modulo, whole, size_modulo, to_uint_32}
use Rattle.integers.proofs.Words.{modulo_law}
use Rattle.integers.proofs.word.to_uint_32.Goals as goal

zero_is : of_bits binary64 0 ≡ fin false 0 (pos 0)
unfolding of_bits
zero_is = refl

-- -n, modulo 2 ^ 32
from_below : (n : ℕ) → (2 ^ 32 - n % 2 ^ 32) % 2 ^ 32 ≡ modulo (neg_ℤ (pos n)) (2 ^ 32)
from_below zero = refl
from_below (suc n) = omega arith

negative : (x : Float) → lt x (fin false 0 (pos 0)) ≡ true → (2 ^ 32 - size_modulo x) % 2 ^ 32 ≡ to_uint_32 x
unfolding lt size_modulo to_uint_32
negative nan h = absurd (true≢false (sym h))
negative (inf s) h = refl
negative (fin true m e) h = from_below (whole m e)
negative (fin false m e) h = absurd (omega (arith, ltb-true _ _ h))

other : (x : Float) → lt x (fin false 0 (pos 0)) ≡ false → size_modulo x ≡ to_uint_32 x
unfolding lt size_modulo to_uint_32
other nan h = refl
other (inf s) h = refl
other (fin true m e) h =
    let z : m * up e ≡ 0 = omega (arith, ltb-false _ _ h) in
    let q : whole m e ≡ 0 = ap (λ (n : ℕ). n / down e) z ∙ zero-div (down e) in
    ap (λ (n : ℕ). n % 2 ^ 32) q ∙ sym (ap (λ (n : ℕ). modulo (neg_ℤ (pos n)) (2 ^ 32)) q)
other (fin false m e) h = refl

low_is : (x : Float) (b r : ℕ) → fits binary64 x ≡ true → b ≡ to_bits binary64 x → r ≡ size_modulo (of_bits binary64 b) → r ≡ size_modulo x
low_is x b r f e h = h ∙ ap (λ (n : ℕ). size_modulo (of_bits binary64 n)) e ∙ ap size_modulo (of_bits-to_bits binary64 x (subst T (sym f) tt))

pub returns-then-x : goal.returns-then-x
returns-then-x c =
    let e = low_is c.args.x _ _ c.well_formed.0.1 c.f64_to_bits_with_nan.ensures c.low_word-low.ensures in
    let z = negative c.args.x (sym (ap (lt c.args.x) zero_is) ∙ c.if-x.true) in
    record { value = omega (arith, e, z); modulo = modulo_law }

pub returns-else-x : goal.returns-else-x
returns-else-x c = record {
  value = low_is c.args.x _ _ c.well_formed.0.1 c.f64_to_bits_with_nan.ensures c.low_word-low.ensures ∙ other c.args.x (sym (ap (lt c.args.x) zero_is) ∙ c.if-x.false);
  modulo = modulo_law;
}
