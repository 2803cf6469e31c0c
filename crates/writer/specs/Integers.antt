-- Which numbers are integers from 0 to 2 ^ 53 - 1. Assumes nothing.
use Rattle.std.specs.Prelude.{◌≡◌, ℕ, ◌^◌, ◌<◌, Bool, true, false, cond, ◌&&◌, T, pos, Some, None, refl, Float}
use Rattle.std.proofs.Common.{sym, ap, ◌∙◌, subst, arith}
use Rattle.std.specs.Float.{binary64}
use Rattle.std.specs.Float.Ieee.{fits, in_float, in_unsigned, of_int, to_unsigned}
use Rattle.std.specs.Float.Ieee.Back.{unsigned_back, Float-back_unsigned}
use Rattle.std.specs.Float.Ieee.Bits.{is_true}
use Rattle.std.specs.Float.Ieee.Casts.{to_unsigned-lt}
use Rattle.std.specs.Float.Ieee.Fits.{of_int-fits}
use Rattle.std.proofs.lemmas.Bool.{and_from, and_parts, le-leb}
use Rattle.writer.specs.Texts.{integer}

holds : {b : Bool} → b ≡ true → T b
holds p = subst T (sym p) tt

in-float : (n : ℕ) → n < 2 ^ 53 → T (in_float binary64 (pos n))
unfolding in_float
in-float n h = holds (le-leb n (2 ^ 53) (omega arith))

pub integer_of : (n : ℕ) → n < 2 ^ 53 → integer (of_int binary64 (pos n)) ≡ Some n
integer_of n h =
    let b = unsigned_back binary64 53 n (in-float n h) h in
    ap (λ (t : Bool). cond t (Some (to_unsigned 53 (of_int binary64 (pos n)))) None) (and_from _ _ (is_true _ (of_int-fits binary64 (pos n))) (is_true _ b.0))
    ∙ ap Some b.1

pub integer_is : (x : Float) (n : ℕ) → integer x ≡ Some n → (n < 2 ^ 53) × (x ≡ of_int binary64 (pos n))
integer_is x n h = go (fits binary64 x && in_unsigned binary64 53 x) refl h
  where
    go : (b : Bool) → (fits binary64 x && in_unsigned binary64 53 x) ≡ b → cond b (Some (to_unsigned 53 x)) None ≡ Some n → (n < 2 ^ 53) × (x ≡ of_int binary64 (pos n))
    go false p q = let z : ◌≡◌ {A = ℕ} 0 1 = cc in absurd (omega arith)
    go true p q =
        let e : to_unsigned 53 x ≡ n = cc in
        let t = and_parts _ _ p in
        subst (λ (k : ℕ). (k < 2 ^ 53) × (x ≡ of_int binary64 (pos k))) e (to_unsigned-lt 53 x, sym (Float-back_unsigned binary64 53 x (holds t.0) (holds t.1)).1)

-- the cast gives the integer back
pub whole_part : (x : Float) (n : ℕ) → integer x ≡ Some n → to_unsigned 64 x ≡ n
whole_part x n h =
    let i = integer_is x n h in
    ap (to_unsigned 64) i.1 ∙ (unsigned_back binary64 64 n (in-float n i.0) (omega (arith, i.0))).1
