-- What a pattern's fields say of the whole part of its number, modulo 2^32. Assumes nothing.
use Rattle.std.proofs.Common.{◌≡◌, ℕ, zero, suc, ◌+◌, ◌-◌, ◌*◌, ◌/◌, ◌%◌, ◌^◌, ◌<◌, ◌≤◌, Bool, true, false, cond, eqb, pos, neg_ℤ, sym, refl, ap, ◌∙◌, lt_of_lt_of_le, mul_assoc, arith, lit≤, pow_pos, pow_mono, pow-add, shl_lt, shr-shr, ne_eqb}
use native.Mathlib.Nat.{div-eq_of_lt, mul-mod_left}
use lib.Pow.{shl-shr, mod-mod-pow}
use lib.Ieee.{Float, nan, inf, fin, binary64, up, down, odd, of_fields}
use lib.Ieee.Fits.{down_pos}
use lib.Ieee.Exact.{HasValue, odd_sign}
use lib.Ieee.Nearest.{div_same}
use Rattle.integers.specs.Words.{modulo, to_uint_32, size_modulo}

pub size_of_value : (v : Float) (s : Bool) (a c : ℕ) → 0 < c → HasValue v s a c → size_modulo v ≡ a / c % 2 ^ 32
unfolding size_modulo
size_of_value nan s a c p h = absurd h
size_of_value (inf t) s a c p h = absurd h
size_of_value (fin t m e) s a c p h = ap (λ (n : ℕ). n % 2 ^ 32) (div_same (m * up e) (down e) a c (down_pos e) p h.1)

-- a or -a, modulo 2 ^ 32
abbrev pub residue : Bool → ℕ → ℕ
residue s n = modulo (cond s (neg_ℤ (pos n)) (pos n)) (2 ^ 32)

pub residue_of_value : (v : Float) (s : Bool) (a c : ℕ) → 0 < c → HasValue v s a c → to_uint_32 v ≡ residue s (a / c)
unfolding to_uint_32
residue_of_value nan s a c p h = absurd h
residue_of_value (inf t) s a c p h = absurd h
residue_of_value (fin t m e) s a c p h = ap (residue t) (div_same (m * up e) (down e) a c (down_pos e) p h.1) ∙ ap (λ (b : Bool). residue b (a / c)) h.0

-- ---- the fields

tiny : (q j : ℕ) → q < 2 ^ 53 → j ≤ 1021 → q * 2 ^ j / 2 ^ 1074 % 2 ^ 32 ≡ 0
tiny q j h k =
    let l : 53 + j ≤ 1074 = omega arith in
    ap (λ (n : ℕ). n % 2 ^ 32) (div-eq_of_lt (lt_of_lt_of_le (shl_lt 53 j h) (pow_mono l)))

special : (a b s : Bool) (v : Float) → a ≡ true → size_modulo (cond a (cond b (inf s) nan) v) ≡ 0
unfolding size_modulo
special true true s v h = refl
special true false s v h = refl
special false b s v h = absurd (mathlib.Core.Bool.true≢false (sym h))

-- what is read off a field x below 2047 and digits t
pub normal : (s : Bool) (j t : ℕ) → suc j < 2047 → size_modulo (of_fields binary64 s (suc j) t) ≡ (2 ^ 52 + t) * 2 ^ j / 2 ^ 1074 % 2 ^ 32
unfolding of_fields
normal s j t h =
    let n : eqb (suc j) 2047 ≡ false = ne_eqb (suc j) 2047 (λ e. omega arith) in
    let v = odd 53 s (2 ^ 52 + t) j 1074 in
    ap (λ (b : Bool). size_modulo (cond b (cond (eqb t 0) (inf s) nan) v)) n ∙ size_of_value v s ((2 ^ 52 + t) * 2 ^ j) (2 ^ 1074) (pow_pos 1074) (odd_sign 53 s (2 ^ 52 + t) j 1074)

pub below : (s : Bool) (x t : ℕ) → t < 2 ^ 52 → x < 1023 → 0 ≡ size_modulo (of_fields binary64 s x t)
unfolding of_fields
below s zero t h l = sym (size_of_value (odd 53 s t 0 1074) s (t * 2 ^ 0) (2 ^ 1074) (pow_pos 1074) (odd_sign 53 s t 0 1074) ∙ tiny t 0 (omega arith) (lit≤ tt))
below s (suc j) t h l = sym (normal s j t (omega arith) ∙ tiny (2 ^ 52 + t) j (omega arith) (omega arith))

join : (j : ℕ) → j ≤ 1074 → j + (1074 - j) ≡ 1074
join j h = omega arith

shifted_down : (q j : ℕ) → j ≤ 1074 → q / 2 ^ (1074 - j) ≡ q * 2 ^ j / 2 ^ 1074
shifted_down q j h = ap (λ (k : ℕ). k / 2 ^ (1074 - j)) (sym (shl-shr q j)) ∙ shr-shr (q * 2 ^ j) j (1074 - j) ∙ ap (λ (k : ℕ). q * 2 ^ j / 2 ^ k) (join j h)

rejoin : (j : ℕ) → 1074 ≤ j → j - 1074 + 1074 ≡ j
rejoin j h = omega arith

shifted_up : (q j : ℕ) → 1074 ≤ j → q * 2 ^ (j - 1074) ≡ q * 2 ^ j / 2 ^ 1074
shifted_up q j h = sym (ap (λ (k : ℕ). k / 2 ^ 1074) (ap (λ (k : ℕ). q * 2 ^ k) (sym (rejoin j h)) ∙ ap (λ (k : ℕ). q * k) (pow-add 2 (j - 1074) 1074) ∙ sym (mul_assoc q (2 ^ (j - 1074)) (2 ^ 1074))) ∙ shl-shr (q * 2 ^ (j - 1074)) 1074)

pub down_by : (s : Bool) (x t : ℕ) → 1023 ≤ x → x ≤ 1075 → (2 ^ 52 + t) / 2 ^ (1075 - x) % 2 ^ 32 ≡ size_modulo (of_fields binary64 s x t)
down_by s zero t l h = absurd (omega arith)
down_by s (suc j) t l h =
    let e : 1075 - suc j ≡ 1074 - j = omega arith in
    ap (λ (k : ℕ). (2 ^ 52 + t) / 2 ^ k % 2 ^ 32) e ∙ ap (λ (n : ℕ). n % 2 ^ 32) (shifted_down (2 ^ 52 + t) j (omega arith)) ∙ sym (normal s j t (omega arith))

pub up_by : (s : Bool) (x t : ℕ) → 1075 < x → x < 1107 → (2 ^ 52 + t) * 2 ^ (x - 1075) % 2 ^ 64 % 2 ^ 32 ≡ size_modulo (of_fields binary64 s x t)
up_by s zero t l h = absurd (omega arith)
up_by s (suc j) t l h =
    let e : suc j - 1075 ≡ j - 1074 = omega arith in
    mod-mod-pow ((2 ^ 52 + t) * 2 ^ (suc j - 1075)) 32 32
    ∙ ap (λ (k : ℕ). (2 ^ 52 + t) * 2 ^ k % 2 ^ 32) e
    ∙ ap (λ (n : ℕ). n % 2 ^ 32) (shifted_up (2 ^ 52 + t) j (omega arith))
    ∙ sym (normal s j t (omega arith))

multiple : (q i : ℕ) → 32 ≤ i → q * 2 ^ i % 2 ^ 32 ≡ 0
multiple q i h =
    let e : i - 32 + 32 ≡ i = omega arith in
    ap (λ (k : ℕ). q * 2 ^ k % 2 ^ 32) (sym e) ∙ ap (λ (k : ℕ). q * k % 2 ^ 32) (pow-add 2 (i - 32) 32) ∙ ap (λ (k : ℕ). k % 2 ^ 32) (sym (mul_assoc q (2 ^ (i - 32)) (2 ^ 32))) ∙ mul-mod_left (q * 2 ^ (i - 32)) (2 ^ 32)

pub above : (s : Bool) (x t : ℕ) → 1107 ≤ x → x < 2048 → 0 ≡ size_modulo (of_fields binary64 s x t)
unfolding of_fields
above s zero t l h = absurd (omega arith)
above s (suc j) t l h = go (eqb (suc j) 2047) refl
  where
    go : (b : Bool) → eqb (suc j) 2047 ≡ b → 0 ≡ size_modulo (of_fields binary64 s (suc j) t)
    go true e = sym (special (eqb (suc j) 2047) (eqb t 0) s (odd 53 s (2 ^ 52 + t) j 1074) e)
    go false e =
        let k : suc j < 2047 = omega (arith, borrow.Author.Tests.eqb-false (suc j) 2047 e) in
        sym (normal s j t k ∙ ap (λ (n : ℕ). n % 2 ^ 32) (sym (shifted_up (2 ^ 52 + t) j (omega arith))) ∙ multiple (2 ^ 52 + t) (j - 1074) (omega arith))
