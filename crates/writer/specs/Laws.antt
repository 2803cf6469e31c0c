-- What a writer of integers owes, from what its text of each integer is. Assumes nothing.
use Rattle.std.proofs.Common.{arith, sym, ap, ◌∙◌, subst}
use Rattle.std.specs.Prelude.{◌≡◌, ℕ, ◌^◌, ◌<◌, ◌≤◌, List, length, pos, Some, None, Option, refl, Float}
use Rattle.std.specs.Float.{binary64}
use Rattle.std.specs.Float.Ieee.{of_int}
use Rattle.std.specs.Option.{option_map}
use Rattle.writer.specs.Literal.{literal}
use Rattle.writer.specs.Texts.{integer}
use Rattle.writer.specs.Writers.{NumberText, Within, Exact, Wrote}
use Rattle.writer.specs.Integers.{integer_is, integer_of}

of_integer : (f : ℕ → List ℕ) (x : Float) (t : List ℕ) → option_map f (integer x) ≡ Some t → (n : ℕ) × (n < 2 ^ 53) × (f n ≡ t) × (x ≡ of_int binary64 (pos n))
of_integer f x t h = go (integer x) refl h
  where
    go : (o : Option ℕ) → integer x ≡ o → option_map f o ≡ Some t → (n : ℕ) × (n < 2 ^ 53) × (f n ≡ t) × (x ≡ of_int binary64 (pos n))
    go None p q = let z : ◌≡◌ {A = ℕ} 0 1 = cc in absurd (omega arith)
    go (Some n) p q =
        let e : f n ≡ t = cc in
        let i = integer_is x n p in
        (n, i.0, e, i.1)

pub text_by : (f : ℕ → List ℕ) (n : ℕ) (t : List ℕ) → n < 2 ^ 53 → f n ≡ t → option_map f (integer (of_int binary64 (pos n))) ≡ Some t
text_by f n t h e = ap (option_map f) (integer_of n h) ∙ ap Some e

pub within_by : (k : ℕ) (f : ℕ → List ℕ) → ((n : ℕ) → n < 2 ^ 53 → length (f n) ≤ k) → Within k (λ x. option_map f (integer x))
within_by k f short x t h =
    let i = of_integer f x t h in
    subst (λ (s : List ℕ). length s ≤ k) i.2 (short i.0 i.1)

pub exact_by : (f : ℕ → List ℕ) → ((n : ℕ) → n < 2 ^ 53 → literal (f n) ≡ Some n) → Exact (λ x. option_map f (integer x))
exact_by f reads x t h =
    let i = of_integer f x t h in
    (i.0, omega (arith, i.1), ap literal (sym i.2) ∙ reads i.0 i.1, i.3)

pub wrote_by : (f : ℕ → List ℕ) (x : Float) (n : ℕ) (w : NumberText) → Some n ≡ integer x → w.bytes ≡ f n → length w.bytes ≤ 64 → Wrote (option_map f (integer x)) (Some w)
wrote_by f x n w e same room = subst (λ (o : Option ℕ). Wrote (option_map f o) (Some w)) e (same, room)
