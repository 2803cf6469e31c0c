-- Powers of ten up to 10 ^ 22 are floats exactly, and a float is compared with them. Assumes nothing.
use Rattle.std.proofs.Common.{◌≡◌, ℕ, zero, suc, ◌+◌, ◌*◌, ◌^◌, ◌<◌, ◌≤◌, Bool, true, false, cond, leb, eqb, List, length, [], ◌∷◌, ◌++◌, ℤ, pos, sym, refl, ap, ◌∙◌, le_trans, lt_of_lt_of_le, lt_of_le_of_lt, add-zero, mul_assoc, div-lt_iff_lt-mul, pow-suc, le-div_iff_mul-le, mul-one, add-one, arith, lit<, lit≤, pow_mono, pow-add, shl_lt}
use native.Mathlib.Nat.{mul-mul-mul_comm, pow-le-pow_right}
use lib.Ieee.{Float, fin, binary64, of_int, le}
use lib.Ieee.Fits.{down_pos}
use lib.Ieee.Exact.{HasValue, round_exact}
use Rattle.std.proofs.lemmas.Bool.{le-leb, lt-leb, leb-true, leb-false, eq-eqb, eqb-true, cond_both}
use Rattle.std.specs.List.{prefix_len}
use Rattle.std.proofs.lemmas.List.{length-append}
use Rattle.std.proofs.lemmas.List.Folds.{prefix_len-append}
use Rattle.integers.specs.Words.{whole}
use Rattle.integers.specs.Digits.{tens, digits, Lengths}
use Rattle.integers.proofs.Values.{le-true, le-false}

ten_pow : (k : ℕ) → 10 ^ k ≡ 5 ^ k * 2 ^ k
ten_pow zero = refl
ten_pow (suc k) = pow-suc 10 k ∙ ap (λ (n : ℕ). n * 10) (ten_pow k) ∙ mul-mul-mul_comm (5 ^ k) (2 ^ k) 5 2 ∙ sym (ap (λ (n : ℕ). n * 2 ^ suc k) (pow-suc 5 k) ∙ ap (λ (n : ℕ). 5 ^ k * 5 * n) (pow-suc 2 k))

pub exact : (k : ℕ) → k ≤ 22 → HasValue (of_int binary64 (pos (10 ^ k))) false (10 ^ k) 1
unfolding of_int
exact k h =
    let small : 5 ^ k < 2 ^ 53 = lt_of_le_of_lt (pow-le-pow_right {n = 5} (lit< tt) h) (lit< tt) in
    let room : 53 + (k + 1074) ≤ 2098 = omega arith in
    round_exact binary64 false (10 ^ k) 1 (5 ^ k) (k + 1074) (lit< tt) small (lt_of_lt_of_le (shl_lt 53 (k + 1074) small) (pow_mono room))
    (ap (λ (n : ℕ). n * 2 ^ 1074) (ten_pow k) ∙ mul_assoc (5 ^ k) (2 ^ k) (2 ^ 1074) ∙ ap (λ (n : ℕ). 5 ^ k * n) (sym (pow-add 2 k 1074)) ∙ sym (mul-one (5 ^ k * 2 ^ (k + 1074))))

pow_some : (k : ℕ) → 0 < 10 ^ k
pow_some k = lt_of_lt_of_le (lit< tt) (pow-le-pow_right {n = 10} (lit< tt) {i = 0} {j = k} (omega arith))

size : (y : Float) (a m : ℕ) (e : ℤ) → HasValue y false a 1 → le y (fin false m e) ≡ leb a (whole m e)
size y a m e v = go (le y (fin false m e)) refl
  where
    go : (b : Bool) → le y (fin false m e) ≡ b → b ≡ leb a (whole m e)
    go true h = sym (le-leb a (whole m e) ((le-div_iff_mul-le (down_pos e)).1 (le-true y a m e v h)))
    go false h = sym (lt-leb a (whole m e) ((div-lt_iff_lt-mul (down_pos e)).1 (le-false y a m e v h)))

pub compares : (k m : ℕ) (e : ℤ) → k ≤ 22 → le (of_int binary64 (pos (10 ^ k))) (fin false m e) ≡ leb (10 ^ k) (whole m e)
compares k m e h = size (of_int binary64 (pos (10 ^ k))) (10 ^ k) m e (exact k h)

-- the powers of ten from 10 to 10 ^ k
abbrev pub powers : ℕ → List Float
powers zero = []
powers (suc k) = powers k ++ of_int binary64 (pos (10 ^ suc k)) ∷ []

pub none : (n : ℕ) → tens 0 n ≡ 0
unfolding tens
none n = refl

pub more : (n k : ℕ) → leb (10 ^ suc k) n ≡ true → tens (suc k) n ≡ suc (tens k n)
unfolding tens
more n k h = ap (λ (b : Bool). tens k n + cond b 1 0) h ∙ add-one (tens k n)

fewer : (n k : ℕ) → leb (10 ^ suc k) n ≡ false → tens (suc k) n ≡ tens k n
unfolding tens
fewer n k h = ap (λ (b : Bool). tens k n + cond b 1 0) h ∙ add-zero (tens k n)

below_too : (n k : ℕ) → leb (10 ^ suc k) n ≡ true → leb (10 ^ k) n ≡ true
below_too n k h = le-leb (10 ^ k) n (le_trans (pow-le-pow_right {n = 10} (lit< tt) {i = k} {j = suc k} (omega arith)) (leb-true _ _ h))

all : (n k : ℕ) → leb (10 ^ k) n ≡ true → tens k n ≡ k
all n zero h = none n
all n (suc k) h = more n k h ∙ ap suc (all n k (below_too n k h))

length-powers : (k : ℕ) → length (powers k) ≡ k
length-powers zero = refl
length-powers (suc k) = length-append (powers k) (of_int binary64 (pos (10 ^ suc k)) ∷ []) ∙ rw (length-powers k) (add-one k)

-- those before the first that is larger than a number are as many as are at most its whole part
pub reached : (k m : ℕ) (e : ℤ) → k ≤ 22 → prefix_len (λ p. le p (fin false m e)) (powers k) ≡ tens k (whole m e)
reached zero m e h = sym (none (whole m e))
reached (suc k) m e h =
    prefix_len-append (λ p. le p (fin false m e)) (powers k) (of_int binary64 (pos (10 ^ suc k)) ∷ [])
    ∙ rw (reached k m e (omega arith), length-powers k, compares (suc k) m e h) (go (leb (10 ^ suc k) (whole m e)) refl)
  where
    go : (b : Bool) → leb (10 ^ suc k) (whole m e) ≡ b → cond (eqb (tens k (whole m e)) k) (k + cond b 1 0) (tens k (whole m e)) ≡ tens (suc k) (whole m e)
    go true l = rw (all (whole m e) k (below_too (whole m e) k l), eq-eqb k k refl, all (whole m e) (suc k) l) (add-one k)
    go false l =
        let t = tens k (whole m e) in
        rw (fewer (whole m e) k l) (cond_both (eqb t k) (k + 0) t (λ n. n ≡ t) (λ q. add-zero k ∙ sym (eqb-true t k q)) (λ q. refl))

-- tens k n is the last exponent up to k in reach
bracket : (n k : ℕ) → n < 10 ^ suc k → 0 < n → (10 ^ tens k n ≤ n) × (n < 10 ^ suc (tens k n))
bracket n zero h p = rw none (p, h)
bracket n (suc k) h p = go (leb (10 ^ suc k) n) refl (λ l. bracket n k l p)
  where
    go : (b : Bool) → leb (10 ^ suc k) n ≡ b → (n < 10 ^ suc k → (10 ^ tens k n ≤ n) × (n < 10 ^ suc (tens k n))) → (10 ^ tens (suc k) n ≤ n) × (n < 10 ^ suc (tens (suc k) n))
    go true e below = rw (all n (suc k) e) (leb-true _ _ e, h)
    go false e below = rw (fewer n k e) (below (leb-false _ _ e))

pub lengths : Lengths
lengths zero h = (pow_some (digits 0), λ p. absurd (omega arith))
lengths (suc n) h =
    let b = bracket (suc n) 22 (lt_of_lt_of_le h (lit≤ tt)) (omega arith) in
    (rw add-one b.1, λ p. b.0)
