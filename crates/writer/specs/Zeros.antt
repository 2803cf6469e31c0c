-- The final zeros of a number. Assumes nothing.
use Rattle.std.proofs.Common.{le-mul_of_pos_right, mul-one, mul_assoc, mul-le-mul_right, div-one, mul-div_cancel, pow-suc, arith, sym, ap, ◌∙◌, add-one, lit<}
use Rattle.std.proofs.Math.Nat.{pow-le-pow_right, div-div-eq-div-mul, pow-succ'}
use Rattle.std.specs.Prelude.{◌≡◌, ℕ, zero, suc, ◌+◌, ◌-◌, ◌*◌, ◌/◌, ◌%◌, ◌^◌, ◌<◌, ◌≤◌, Bool, true, false, cond, ◌&&◌, ◌==◌, ◌≢◌, nat_lt, refl}
use Rattle.std.proofs.lemmas.Bool.{and_from, and_parts, eqb-true, eq-eqb, lt-ltb, ltb-true, ltb-false}
use Rattle.writer.specs.Texts.{final_zeros}

abbrev goes_on : ℕ → Bool
goes_on n = nat_lt 0 n && n % 10 == 0

pub zeros_more : (k n : ℕ) → 0 < n → n % 10 ≡ 0 → final_zeros (suc k) n ≡ suc (final_zeros k (n / 10))
unfolding final_zeros
zeros_more k n h z = ap (λ (b : Bool). cond b (suc (final_zeros k (n / 10))) 0) (and_from _ _ (lt-ltb 0 n h) (eq-eqb (n % 10) 0 z))

pub zeros_none : (k n : ℕ) → (0 < n → n % 10 ≢ 0) → final_zeros k n ≡ 0
unfolding final_zeros
zeros_none zero n h = refl
zeros_none (suc k) n h = go (goes_on n) refl
  where
    go : (b : Bool) → goes_on n ≡ b → cond b (suc (final_zeros k (n / 10))) 0 ≡ 0
    go true p = let t = and_parts _ _ p in absurd (h (ltb-true 0 n t.0) (eqb-true (n % 10) 0 t.1))
    go false p = refl

pub zeros_le : (k n : ℕ) → final_zeros k n ≤ k
unfolding final_zeros
zeros_le zero n = omega arith
zeros_le (suc k) n = go (goes_on n) (zeros_le k (n / 10))
  where
    go : (b : Bool) → final_zeros k (n / 10) ≤ k → cond b (suc (final_zeros k (n / 10))) 0 ≤ suc k
    go true h = omega arith
    go false h = omega arith

tens : (n m p : ℕ) → n % 10 ≡ 0 → m * p ≡ n / 10 → m * (p * 10) ≡ n
tens n m p h e = sym (mul_assoc m p 10) ∙ ap (λ (k : ℕ). k * 10) e ∙ omega arith

pub stem_back : (k n : ℕ) → n / 10 ^ final_zeros k n * 10 ^ final_zeros k n ≡ n
unfolding final_zeros
stem_back zero n = mul-one (n / 1) ∙ div-one n
stem_back (suc k) n = go (goes_on n) refl (stem_back k (n / 10))
  where
    go : (b : Bool) → goes_on n ≡ b → n / 10 / 10 ^ final_zeros k (n / 10) * 10 ^ final_zeros k (n / 10) ≡ n / 10
        → n / 10 ^ cond b (suc (final_zeros k (n / 10))) 0 * 10 ^ cond b (suc (final_zeros k (n / 10))) 0 ≡ n
    go false p e = mul-one (n / 1) ∙ div-one n
    go true p e =
        let z = final_zeros k (n / 10) in
        let m : n / 10 ^ suc z ≡ n / 10 / 10 ^ z = ap (λ (q : ℕ). n / q) (pow-succ' 10 z) ∙ sym (div-div-eq-div-mul n 10 (10 ^ z)) in
        ap (λ (q : ℕ). q * 10 ^ suc z) m ∙ ap (λ (q : ℕ). n / 10 / 10 ^ z * q) (pow-suc 10 z) ∙ tens n (n / 10 / 10 ^ z) (10 ^ z) (eqb-true (n % 10) 0 (and_parts _ _ p).1) e

-- ---- n is m with z zeros after it

pub power_pos : (z : ℕ) → 0 < 10 ^ z
power_pos z = pow-le-pow_right {n = 10} (lit< tt) {i = 0} {j = z} (omega arith)

pub front_le : (n m z : ℕ) → n ≡ m * 10 ^ z → m ≤ n
front_le n m z e = omega (arith, le-mul_of_pos_right m (power_pos z))

pub front_is : (n m z : ℕ) → n ≡ m * 10 ^ z → n / 10 ^ z ≡ m
front_is n m z e = ap (λ (k : ℕ). k / 10 ^ z) e ∙ mul-div_cancel m (power_pos z)

-- a number below 10 ^ k has fewer than k zeros
pub fewer : (k n m z : ℕ) → n < 10 ^ k → n ≡ m * 10 ^ z → 0 < m → z < k
fewer k n m z h e p = go (nat_lt z k) refl
  where
    go : (b : Bool) → nat_lt z k ≡ b → z < k
    go true t = ltb-true z k t
    go false t = absurd (omega (arith, pow-le-pow_right {n = 10} (lit< tt) (ltb-false z k t), mul-le-mul_right (10 ^ z) p))

-- one zero more
pub front_more : (n m z : ℕ) → n ≡ m * 10 ^ z → m % 10 ≡ 0 → n ≡ m / 10 * 10 ^ (z + 1)
front_more n m z e h =
    let w : m ≡ m / 10 * 10 = omega arith in
    e ∙ ap (λ (k : ℕ). k * 10 ^ z) w ∙ mul_assoc (m / 10) 10 (10 ^ z) ∙ ap (λ (q : ℕ). m / 10 * q) (sym (ap (λ (k : ℕ). 10 ^ k) (add-one z) ∙ pow-succ' 10 z))

pub count_more : (k m z : ℕ) → z < k → 0 < m → m % 10 ≡ 0 → (z + 1) + final_zeros (k - (z + 1)) (m / 10) ≡ z + final_zeros (k - z) m
count_more k m z l p h =
    let s : k - z ≡ suc (k - (z + 1)) = omega arith in
    omega (arith, ap (λ (i : ℕ). final_zeros i m) s ∙ zeros_more (k - (z + 1)) m p h)
