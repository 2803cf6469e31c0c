-- How long the texts of integers are, and what they read as. Assumes nothing.
use Rattle.std.proofs.Common.{div-mul-le_self, mul-le-mul_left, arith, sym, ap, ◌∙◌, lit<, length-append}
use Rattle.std.proofs.Math.Nat.{pow-le-pow_right}
use Rattle.std.specs.Prelude.{◌≡◌, ℕ, ◌*◌, ◌/◌, ◌^◌, ◌<◌, ◌≤◌, Bool, true, false, cond, ◌++◌, length, Some, codes, decimal, nat_lt, refl}
use Rattle.std.proofs.lemmas.Fmt.{length-decimal-le}
use Rattle.std.proofs.lemmas.Bool.{lt-ltb, le-ltb, ltb-false}
use Rattle.writer.specs.Literal.{literal}
use Rattle.writer.specs.Texts.{final_zeros, shortened, short_decimal}
use Rattle.writer.specs.Literals.{literal-decimal, literal_exponent}
use Rattle.writer.specs.Zeros.{front_is, stem_back, zeros_le}

pub decimal_le : (n : ℕ) → n < 2 ^ 53 → length (decimal n) ≤ 16
decimal_le n h = length-decimal-le 16 n (lit< tt) (omega arith) (omega arith)

pub stem_le : (n z : ℕ) → n < 2 ^ 53 → 3 ≤ z → (n / 10 ^ z < 2 ^ 53) × (length (decimal (n / 10 ^ z)) ≤ 13)
stem_le n z h l =
    let p : 10 ^ 3 ≤ 10 ^ z = pow-le-pow_right {n = 10} (lit< tt) l in
    let small : n / 10 ^ z < 10 ^ 13 = omega (arith, div-mul-le_self n (10 ^ z), mul-le-mul_left (n / 10 ^ z) p) in
    (omega arith, length-decimal-le 13 (n / 10 ^ z) (lit< tt) small (omega arith))

pub zeros_short : (n : ℕ) → length (decimal (final_zeros 16 n)) ≤ 2
zeros_short n = let k = zeros_le 16 n in length-decimal-le 2 (final_zeros 16 n) (lit< tt) (omega arith) (omega arith)

pub short_le : (n : ℕ) → n < 2 ^ 53 → length (short_decimal n) ≤ 16
short_le n h = go (nat_lt (final_zeros 16 n) 3) refl
  where
    go : (b : Bool) → nat_lt (final_zeros 16 n) 3 ≡ b → length (cond b (decimal n) (decimal (n / 10 ^ final_zeros 16 n) ++ (codes "e" ++ decimal (final_zeros 16 n)))) ≤ 16
    go true p = decimal_le n h
    go false p = simp length-append (omega (arith, (stem_le n (final_zeros 16 n) h (ltb-false _ _ p)).1, zeros_short n))

pub short_reads : (n : ℕ) → n < 2 ^ 53 → literal (short_decimal n) ≡ Some n
short_reads n h = go (nat_lt (final_zeros 16 n) 3) refl
  where
    go : (b : Bool) → nat_lt (final_zeros 16 n) 3 ≡ b → literal (cond b (decimal n) (decimal (n / 10 ^ final_zeros 16 n) ++ (codes "e" ++ decimal (final_zeros 16 n)))) ≡ Some n
    go true p = literal-decimal n (omega arith)
    go false p =
        let k = zeros_le 16 n in
        let m = (stem_le n (final_zeros 16 n) h (ltb-false _ _ p)).0 in
        literal_exponent (n / 10 ^ final_zeros 16 n) (final_zeros 16 n) (omega arith) (omega arith) ∙ ap Some (stem_back 16 n)

-- ---- the text of n, by how many final zeros it has

pub few_zeros : (n z : ℕ) → z ≡ final_zeros 16 n → z < 3 → decimal n ≡ short_decimal n
few_zeros n z e l = sym (ap (λ (b : Bool). cond b (decimal n) (decimal (n / 10 ^ final_zeros 16 n) ++ (codes "e" ++ decimal (final_zeros 16 n)))) (lt-ltb (final_zeros 16 n) 3 (omega arith)))

pub many_zeros : (n m z : ℕ) → z ≡ final_zeros 16 n → n ≡ m * 10 ^ z → 3 ≤ z → decimal m ++ (codes "e" ++ decimal z) ≡ short_decimal n
many_zeros n m z e s l =
    let t : shortened n z ≡ decimal (n / 10 ^ z) ++ (codes "e" ++ decimal z) = ap (λ (b : Bool). cond b (decimal n) (decimal (n / 10 ^ z) ++ (codes "e" ++ decimal z))) (le-ltb z 3 l) in
    sym (ap (shortened n) (sym e) ∙ t ∙ ap (λ (k : ℕ). decimal k ++ (codes "e" ++ decimal z)) (front_is n m z s))
