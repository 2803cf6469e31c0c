use Rattle.std.proofs.Common.{◌≡◌, ℕ, ◌+◌, Bool, true, false, ℤ, sym, refl, ap, ◌∙◌, true≢false}
use lib.Ieee.{Float, nan, inf, fin, is_nan}
use mir.Val.{bool_byte}
use Rattle.std.specs.Float as Floats
use Rattle.std.specs.Float.{float_with_sign}
use Rattle.integers.specs.Words.{whole}
use Rattle.integers.specs.Digits.{digits, minus, digit_count}
use Rattle.integers.proofs.Tens.{lengths}
use Rattle.integers.proofs.digits.digit_count.Goals as goal

minus_is : (s t : Bool) → s ≡ t → bool_byte s ≡ minus t
minus_is true t e = ap minus e
minus_is false t e = ap minus e

no_number : (x : Float) → is_nan x ≡ true → 3 ≡ digit_count x
unfolding is_nan digit_count
no_number nan h = refl
no_number (inf s) h = absurd (true≢false (sym h))
no_number (fin s m e) h = absurd (true≢false (sym h))

endless : (x : Float) → Floats.float_is_infinite x ≡ true → 8 + minus (Floats.is_sign_negative x) ≡ digit_count x
unfolding Floats.float_is_infinite Floats.is_sign_negative digit_count
endless nan h = absurd (true≢false (sym h))
endless (inf s) h = refl
endless (fin s m e) h = absurd (true≢false (sym h))

number : (x : Float) (r : ℕ) → is_nan x ≡ false → Floats.float_is_infinite x ≡ false → ((m : ℕ) (e : ℤ) → float_with_sign false x ≡ fin false m e → r ≡ digits (whole m e)) → r + minus (Floats.is_sign_negative x) ≡ digit_count x
unfolding is_nan Floats.float_is_infinite Floats.is_sign_negative float_with_sign digit_count
number nan r h i f = absurd (true≢false h)
number (inf s) r h i f = absurd (true≢false i)
number (fin s m e) r h i f = ap (λ (n : ℕ). n + minus s) (f m e refl)

pub returns-then-is_nan : goal.returns-then-is_nan
returns-then-is_nan c = record { value = no_number c.args.x (sym c.if-is_nan.ensures.value); lengths = lengths }

pub returns-then-is_infinite : goal.returns-then-is_infinite
returns-then-is_infinite c = record {
  value = ap (λ (n : ℕ). 8 + n) (minus_is _ _ c.is_sign_negative-minus.ensures) ∙ endless c.args.x (sym c.if-is_infinite.ensures.value);
  lengths = lengths;
}

pub returns-else-is_infinite : goal.returns-else-is_infinite
returns-else-is_infinite c = record {
  value =
      ap (λ (n : ℕ). c.whole_digits.result + n) (minus_is _ _ c.is_sign_negative-minus.ensures)
      ∙ number c.args.x c.whole_digits.result (sym c.if-is_nan.ensures.value) (sym c.if-is_infinite.ensures.value) (λ m e h. c.whole_digits.ensures.value m e (c.abs.ensures.value ∙ h));
  lengths = lengths;
}
