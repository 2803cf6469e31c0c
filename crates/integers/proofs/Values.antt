-- A float of a whole number's value, compared with a float. Assumes nothing.
use Rattle.std.proofs.Common.{◌≡◌, ℕ, ◌*◌, ◌<◌, ◌≤◌, Bool, true, false, ◌&&◌, ℤ, sym, ap, ◌∙◌, subst, inl, inr, true≢false, le_of_eq, le_of_lt, lt_of_mul-lt-mul_right, mul-one, mul_right_comm, le_of_mul-le-mul_right, arith}
use native.Mathlib.Nat.{eq_of_mul-eq-mul_right}
use lib.Ieee.{Float, nan, inf, fin, up, down, eq, lt, le}
use lib.Ieee.Fits.{down_pos}
use lib.Ieee.Exact.{HasValue}
use Rattle.std.proofs.lemmas.Bool.{or_cases, or_parts, and_parts, eqb-true, ltb-true, ltb-false, eq-eqb}

cross : (X a d D : ℕ) → X * 1 ≡ a * d → X * D ≡ a * D * d
cross X a d D h = ap (λ (k : ℕ). k * D) (sym (mul-one X) ∙ h) ∙ mul_right_comm a d D

pub eq-true : (y : Float) (a m : ℕ) (e : ℤ) → HasValue y false a 1 → eq y (fin false m e) ≡ true → a * down e ≡ m * up e
unfolding eq
eq-true nan a m e v h = absurd v
eq-true (inf t) a m e v h = absurd v
eq-true (fin t n d) a m e v h =
    let q : n * up d * down e ≡ m * up e * down d = eqb-true _ _ (and_parts _ _ h).0 in
    eq_of_mul-eq-mul_right (down d) (down_pos d) (a * down e) (m * up e) (sym (cross (n * up d) a (down d) (down e) v.1) ∙ q)

pub eq-false : (y : Float) (a m : ℕ) (e : ℤ) → HasValue y false a 1 → eq y (fin false m e) ≡ false → a * down e ≡ m * up e → ⊥
unfolding eq
eq-false nan a m e v h z = absurd v
eq-false (inf t) a m e v h z = absurd v
eq-false (fin true n d) a m e v h z = absurd (true≢false v.0)
eq-false (fin false n d) a m e v h z =
    let q : n * up d * down e ≡ m * up e * down d = cross (n * up d) a (down d) (down e) v.1 ∙ ap (λ (k : ℕ). k * down d) z in
    true≢false (sym (ap (λ (b : Bool). b && true) (eq-eqb _ _ q)) ∙ h)

pub le-true : (y : Float) (a m : ℕ) (e : ℤ) → HasValue y false a 1 → le y (fin false m e) ≡ true → a * down e ≤ m * up e
unfolding le lt eq
le-true nan a m e v h = absurd v
le-true (inf t) a m e v h = absurd v
le-true (fin true n d) a m e v h = absurd (true≢false v.0)
le-true (fin false n d) a m e v h =
    let q : n * up d * down e ≤ m * up e * down d = elim (or_cases _ _ h) [ inl l ↦ le_of_lt (ltb-true _ _ l) | inr k ↦ le_of_eq (eqb-true _ _ (and_parts _ _ k).0) ] in
    le_of_mul-le-mul_right (subst (λ (k : ℕ). k ≤ m * up e * down d) (cross (n * up d) a (down d) (down e) v.1) q) (down_pos d)

pub le-false : (y : Float) (a m : ℕ) (e : ℤ) → HasValue y false a 1 → le y (fin false m e) ≡ false → m * up e < a * down e
unfolding le lt eq
le-false nan a m e v h = absurd v
le-false (inf t) a m e v h = absurd v
le-false (fin true n d) a m e v h = absurd (true≢false v.0)
le-false (fin false n d) a m e v h =
    let p = or_parts _ _ h in
    let k : n * up d * down e ≡ m * up e * down d → ⊥ = λ q. true≢false (sym (ap (λ (b : Bool). b && true) (eq-eqb _ _ q)) ∙ p.1) in
    let l : m * up e * down d ≤ n * up d * down e = ltb-false _ _ p.0 in
    let q : m * up e * down d < n * up d * down e = omega arith in
    lt_of_mul-lt-mul_right (down d) (subst (λ (k : ℕ). m * up e * down d < k) (cross (n * up d) a (down d) (down e) v.1) q)
