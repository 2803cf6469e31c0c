use Rattle.std.proofs.Common.{◌≡◌, ℕ, ◌+◌, ◌-◌, ◌*◌, ◌%◌, ◌^◌, ◌<◌, ◌≤◌, Bool, true, false, cond, not, T, eqb, leb, pos, Some, None, Option, sym, refl, ap, ◌∙◌, true≢false, add-zero, div-add-mod', arith}
use native.Mathlib.Nat.{mul-mod_left}
use lib.Ieee.{Float, nan, inf, fin, binary64, up, down, eq, of_int, to_unsigned, is_nan}
use lib.Ieee.Back.{round_whole}
use lib.Ieee.Exact.{HasValue}
use Rattle.std.specs.Float as Floats
use Rattle.std.specs.Float.{float_with_sign}
use Rattle.std.proofs.lemmas.Bool.{eq-eqb, ne_eqb, le-leb, lt-leb, and_from, and_left, and_right}
use Rattle.integers.specs.declared.safe.Integer.{Integer}
use Rattle.integers.specs.Safe.{safe}
use Rattle.integers.specs.Words.{whole}
use Rattle.integers.proofs.Made.{safe_made}
use Rattle.integers.proofs.Values.{eq-true, eq-false}
use Rattle.integers.proofs.safe.safe_integer.Goals as goal
use Rattle.integers.proofs.safe.safe_integer.Goals.{else-size-le-MAX_SAFE_INTEGER-via-then-size-le-MAX_SAFE_INTEGER+else-size-magnitude, else-size-le-MAX_SAFE_INTEGER-via-else-size-le-MAX_SAFE_INTEGER}

value : (n : ℕ) → n ≤ 2 ^ 53 - 1 → HasValue (of_int binary64 (pos n)) false n 1
unfolding of_int
value n h = round_whole binary64 false n (omega arith)

number : (x : Float) (z : Float) → eq z (float_with_sign false x) ≡ true → T (not (is_nan x))
unfolding eq float_with_sign is_nan
number nan nan h = absurd (true≢false (sym h))
number nan (inf t) h = absurd (true≢false (sym h))
number nan (fin t m e) h = absurd (true≢false (sym h))
number (inf s) z h = tt
number (fin s m e) z h = tt

abbrev made : Bool → ℕ → Option Integer
made s n = Some (record { negative = s; size = n })

yes : (x : Float) (n : ℕ) → n ≡ to_unsigned 64 (float_with_sign false x) → n ≤ 2 ^ 53 - 1 → eq (of_int binary64 (pos n)) (float_with_sign false x) ≡ true → made (Floats.is_sign_negative x) n ≡ safe x
unfolding to_unsigned float_with_sign safe Floats.is_sign_negative is_nan
yes nan n e l h = absurd (number nan (of_int binary64 (pos n)) h)
yes (inf s) n e l h = absurd (omega arith)
yes (fin s m d) n e l h =
    let w : n ≡ whole m d = omega arith in
    let p = eq-true (of_int binary64 (pos n)) n m d (value n l) h in
    let z : m * up d % down d ≡ 0 = ap (λ (k : ℕ). k % down d) (sym p) ∙ mul-mod_left n (down d) in
    ap (made s) w ∙ sym (ap (λ (b : Bool). cond b (made s (whole m d)) None) (and_from _ _ (eq-eqb _ _ z) (le-leb (whole m d) (2 ^ 53 - 1) (omega arith))))

no : (x : Float) (n : ℕ) → n ≡ to_unsigned 64 (float_with_sign false x) → n ≤ 2 ^ 53 - 1 → eq (of_int binary64 (pos n)) (float_with_sign false x) ≡ false → None ≡ safe x
unfolding to_unsigned float_with_sign safe
no nan n e l h = refl
no (inf s) n e l h = refl
no (fin s m d) n e l h =
    let w : n ≡ whole m d = omega arith in
    let f : m * up d % down d ≡ 0 → ⊥ = λ z. eq-false (of_int binary64 (pos n)) n m d (value n l) h (ap (λ (k : ℕ). k * down d) w ∙ sym (ap (λ (k : ℕ). whole m d * down d + k) z ∙ add-zero _) ∙ div-add-mod' (m * up d) (down d)) in
    sym (ap (λ (b : Bool). cond b (made s (whole m d)) None) (and_left _ (leb (whole m d) (2 ^ 53 - 1)) (ne_eqb (m * up d % down d) 0 f)))

large : (x : Float) (n : ℕ) → n ≡ to_unsigned 64 (float_with_sign false x) → 2 ^ 53 - 1 < n → None ≡ safe x
unfolding to_unsigned float_with_sign safe
large nan n e l = refl
large (inf s) n e l = refl
large (fin s m d) n e l =
    sym (ap (λ (b : Bool). cond b (made s (whole m d)) None) (and_right (eqb (m * up d % down d) 0) _ (lt-leb (whole m d) (2 ^ 53 - 1) (omega arith))))

pub is_sign_negative-negative-requires : goal.is_sign_negative-negative-requires
is_sign_negative-negative-requires c = number c.args.x _ (rw c.abs-magnitude.ensures.value at c.if-size-magnitude.true)

pub returns-then-size-magnitude : goal.returns-then-size-magnitude
returns-then-size-magnitude c =
    let size = c.saturating_f64_to_u64-size.result in
    let cast = rw c.abs-magnitude.ensures.value at c.saturating_f64_to_u64-size.ensures in
    record {
      value = ap (λ (b : Bool). made b size) c.is_sign_negative-negative.ensures ∙ yes c.args.x size cast c.if-size-le-MAX_SAFE_INTEGER.true (rw c.abs-magnitude.ensures.value at c.if-size-magnitude.true);
      same = safe_made;
    }

pub returns : goal.returns
returns c =
    let cast = rw c.abs-magnitude.ensures.value at c.saturating_f64_to_u64-size.ensures in
    record {
      value = elim c.else-size-le-MAX_SAFE_INTEGER.branch [
        | else-size-le-MAX_SAFE_INTEGER-via-then-size-le-MAX_SAFE_INTEGER+else-size-magnitude w ↦ no c.args.x _ cast w.if-size-le-MAX_SAFE_INTEGER.true (rw c.abs-magnitude.ensures.value at w.if-size-magnitude.false)
        | else-size-le-MAX_SAFE_INTEGER-via-else-size-le-MAX_SAFE_INTEGER w ↦ large c.args.x _ cast w.if-size-le-MAX_SAFE_INTEGER.false
      ];
      same = safe_made;
    }
