-- A safe integer as a number and back. Assumes nothing.
use Rattle.std.proofs.Common.{◌≡◌, ℕ, ◌+◌, ◌-◌, ◌*◌, ◌/◌, ◌%◌, ◌^◌, ◌<◌, ◌≤◌, Bool, true, false, cond, not, ◌&&◌, T, eqb, leb, pos, Some, None, Option, sym, refl, ap, ◌∙◌, add-zero, div-add-mod', mul-one, mul-div_cancel, arith}
use native.Mathlib.Nat.{mul-mod_left}
use lib.Ieee.{Float, nan, inf, fin, binary64, up, down, neg, of_int, fits}
use lib.Ieee.Fits.{down_pos, neg-fits, of_int-fits, cond-fits}
use lib.Ieee.Exact.{HasValue}
use lib.Ieee.Back.{round_whole, whole_unique}
use Rattle.std.proofs.lemmas.Bool.{eq-eqb, eqb-true, le-leb, leb-true, and_from, and_parts}
use Rattle.integers.specs.declared.safe.Integer.{Integer}
use Rattle.integers.specs.Safe.{safe, made, SafeMade, MadeSafe}
use Rattle.integers.specs.Words.{whole}

whole_value : (n : ℕ) → n < 2 ^ 53 → HasValue (of_int binary64 (pos n)) false n 1
unfolding of_int
whole_value n h = round_whole binary64 false n (omega arith)

turned : (x : Float) (n : ℕ) → HasValue x false n 1 → HasValue (neg x) true n 1
unfolding neg
turned nan n v = absurd v
turned (inf t) n v = absurd v
turned (fin t m e) n v = (ap not v.0, v.1)

made_value : (n : Integer) → n.size < 2 ^ 53 → HasValue (made n) n.negative n.size 1
unfolding made
made_value n h = go n.negative
  where
    go : (s : Bool) → HasValue (cond s (neg (of_int binary64 (pos n.size))) (of_int binary64 (pos n.size))) s n.size 1
    go true = turned (of_int binary64 (pos n.size)) n.size (whole_value n.size h)
    go false = whole_value n.size h

made-fits : (n : Integer) → T (fits binary64 (made n))
unfolding made
made-fits n = cond-fits binary64 n.negative (neg (of_int binary64 (pos n.size))) (of_int binary64 (pos n.size)) (neg-fits binary64 (of_int binary64 (pos n.size)) (of_int-fits binary64 (pos n.size))) (of_int-fits binary64 (pos n.size))

abbrev pair : Bool → ℕ → Option Integer
pair s k = Some (record { negative = s; size = k })

at_value : (x : Float) (s : Bool) (k : ℕ) → k < 2 ^ 53 → HasValue x s k 1 → safe x ≡ pair s k
unfolding safe
at_value nan s k h v = absurd v
at_value (inf t) s k h v = absurd v
at_value (fin t m e) s k h v =
    let q : m * up e ≡ k * down e = sym (mul-one (m * up e)) ∙ v.1 in
    let w : whole m e ≡ k = ap (λ (x : ℕ). x / down e) q ∙ mul-div_cancel k (down_pos e) in
    let z : m * up e % down e ≡ 0 = ap (λ (x : ℕ). x % down e) q ∙ mul-mod_left k (down e) in
    ap (λ (b : Bool). cond b (pair t (whole m e)) None) (and_from _ _ (eq-eqb _ _ z) (le-leb (whole m e) (2 ^ 53 - 1) (omega arith)))
    ∙ ap (pair t) w ∙ ap (λ (b : Bool). pair b k) v.0

pub made_safe : MadeSafe
made_safe n h = at_value (made n) n.negative n.size h (made_value n h)

pub safe_made : SafeMade
unfolding safe
safe_made nan n f h = let z : ◌≡◌ {A = ℕ} 0 1 = cc in absurd (omega arith)
safe_made (inf s) n f h = let z : ◌≡◌ {A = ℕ} 0 1 = cc in absurd (omega arith)
safe_made (fin s m e) n f h = go (eqb (m * up e % down e) 0 && leb (whole m e) (2 ^ 53 - 1)) refl h
  where
    go : (b : Bool) → (eqb (m * up e % down e) 0 && leb (whole m e) (2 ^ 53 - 1)) ≡ b → cond b (pair s (whole m e)) None ≡ Some n → made n ≡ fin s m e
    go false p q = let z : ◌≡◌ {A = ℕ} 0 1 = cc in absurd (omega arith)
    go true p q =
        let i : Integer = record { negative = s; size = whole m e } in
        let same : i ≡ n = cc in
        let t = and_parts _ _ p in
        let l : whole m e ≤ 2 ^ 53 - 1 = leb-true _ _ t.1 in
        let z : m * up e % down e ≡ 0 = eqb-true _ _ t.0 in
        let v : m * up e * 1 ≡ whole m e * down e = mul-one (m * up e) ∙ sym (div-add-mod' (m * up e) (down e)) ∙ ap (λ (k : ℕ). whole m e * down e + k) z ∙ add-zero _ in
        ap made (sym same) ∙ whole_unique binary64 (made i) (fin s m e) s (whole m e) (made-fits i) f (made_value i (omega arith)) (refl, v)
