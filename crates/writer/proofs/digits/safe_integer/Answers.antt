use Rattle.std.proofs.Common.{◌≡◌, ℕ, T, pos, Some, None, Option, sym, refl, ap, ◌∙◌, subst, arith}
use lib.Ieee.{Float, binary64, fits, of_bits, of_int, to_bits}
use lib.Ieee.Bits.{of_bits-to_bits}
use lib.Ieee.Fits.{of_int-fits}
use Rattle.writer.specs.Texts.{integer}
use Rattle.writer.specs.Integers.{integer_of, integer_is, whole_part}
use Rattle.writer.proofs.digits.safe_integer.Goals as goal

same_bits : (x y : Float) → T (fits binary64 x) → T (fits binary64 y) → to_bits binary64 x ≡ to_bits binary64 y → x ≡ y
same_bits x y f g e = sym (of_bits-to_bits binary64 x f) ∙ ap (of_bits binary64) e ∙ of_bits-to_bits binary64 y g

none : (x : Float) → ((n : ℕ) → integer x ≡ Some n → ⊥) → None ≡ integer x
none x h = go (integer x) refl
  where
    go : (o : Option ℕ) → integer x ≡ o → None ≡ o
    go None p = refl
    go (Some n) p = absurd (h n p)

pub returns-then-n-gt-MAX_SAFE_INTEGER-clause-value : goal.returns-then-n-gt-MAX_SAFE_INTEGER-clause-value
returns-then-n-gt-MAX_SAFE_INTEGER-clause-value c = none c.args.x (λ k p. omega (arith, whole_part c.args.x k p, (integer_is c.args.x k p).0))

pub returns-then-f64_to_bits_with_nan-clause-value : goal.returns-then-f64_to_bits_with_nan-clause-value
returns-then-f64_to_bits_with_nan-clause-value c =
    let x = c.args.x in
    let n = c.saturating_f64_to_u64-n.result in
    none x (λ k p.
    let e : k ≡ n = sym (c.saturating_f64_to_u64-n.ensures ∙ whole_part x k p) in
    let same : of_int binary64 (pos n) ≡ x = ap (λ (j : ℕ). of_int binary64 (pos j)) (sym e) ∙ sym (integer_is x k p).1 in
    c.if-f64_to_bits_with_nan.true (c.f64_to_bits_with_nan.ensures ∙ ap (to_bits binary64) same ∙ sym c.f64_to_bits_with_nan-2.ensures))

pub returns-clause-value : goal.returns-clause-value
returns-clause-value c =
    let x = c.args.x in
    let n = c.saturating_f64_to_u64-n.result in
    let held : T (fits binary64 x) = subst T (sym c.well_formed.0.1) tt in
    let same = same_bits (of_int binary64 (pos n)) x (of_int-fits binary64 (pos n)) held (sym c.f64_to_bits_with_nan.ensures ∙ c.if-f64_to_bits_with_nan.false ∙ c.f64_to_bits_with_nan-2.ensures) in
    sym (integer_of n (omega arith)) ∙ ap integer same
