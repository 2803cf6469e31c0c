-- 32 bits as an integer, as a Number, and back. Assumes nothing.
use Rattle.std.proofs.Common.{◌≡◌, ℕ, suc, ◌+◌, ◌-◌, ◌*◌, ◌/◌, ◌%◌, ◌^◌, ◌<◌, ◌≤◌, Bool, true, false, cond, leb, ◌⊎◌, ℤ, pos, negsuc, ◌-ℤ◌, sym, refl, ap, ◌∙◌, subst, inl, inr, lt_of_le_of_lt, div-one, arith, lit<, w32, SFits, to_z, of_z}
use lib.Signed.{shr_z, mag_shr}
use lib.Ieee.{Float, nan, inf, fin, binary64, round, of_int}
use lib.Ieee.Back.{round_whole}
use mir.Val.{sel}
use Rattle.std.proofs.lemmas.Int.{ints, to_z-of_z}
use Rattle.std.proofs.lemmas.Bool.{leb-true, leb-false, le-leb, lt-leb, le-ltb}
use Rattle.integers.specs.Words.{to_uint_32, signed, to_int_32, number_of}
use Rattle.integers.specs.Bitwise.{bits, complement}
use Rattle.integers.specs.Shifts.{extended}
use Rattle.integers.specs.Laws.{Int32, Modulo}
use Rattle.integers.proofs.Fields.{residue, residue_of_value}

pub modulo_law : Modulo
modulo_law (pos n) = (omega arith, (n / 2 ^ 32, omega arith))
modulo_law (negsuc n) = (omega arith, (n / 2 ^ 32 + 1, omega arith))

-- ---- the machine's two's complement is the standard's

abbrev choose : ℕ → Bool → ℤ
choose n b = cond b (pos n -ℤ pos (2 ^ 32)) (pos n)

low : (n : ℕ) → n < 2 ^ 31 → signed n ≡ pos n
low n h = ap (choose n) (lt-leb (2 ^ 31) n h)

high : (n : ℕ) → 2 ^ 31 ≤ n → n < 2 ^ 32 → signed n ≡ negsuc (2 ^ 32 - suc n)
high n l h = ap (choose n) (le-leb (2 ^ 31) n l) ∙ omega (arith, ints)

-- 32 bits are an integer from 0 on, or one below 0
halves : (n : ℕ) → n < 2 ^ 32 → ((n < 2 ^ 31) × (signed n ≡ pos n)) ⊎ ((2 ^ 31 ≤ n) × (signed n ≡ negsuc (2 ^ 32 - suc n)))
halves n h = go (leb (2 ^ 31) n) refl
  where
    go : (b : Bool) → leb (2 ^ 31) n ≡ b → ((n < 2 ^ 31) × (signed n ≡ pos n)) ⊎ ((2 ^ 31 ≤ n) × (signed n ≡ negsuc (2 ^ 32 - suc n)))
    go true e = let l : 2 ^ 31 ≤ n = leb-true _ _ e in inr (l, high n l h)
    go false e = let l : n < 2 ^ 31 = leb-false _ _ e in inl (l, low n l)

pub signed_is : (n : ℕ) → n < 2 ^ 32 → to_z w32 n ≡ signed n
signed_is n h = elim (halves n h) [ inl l ↦ omega (arith, ints, l) ∙ sym l.1 | inr g ↦ ap (λ (b : Bool). sel b (pos n) (negsuc (2 ^ 32 - suc n))) (le-ltb n (2 ^ 31) g.0) ∙ sym g.1 ]

pub bits_is : (z : ℤ) → SFits w32 z → of_z w32 z ≡ bits z
bits_is (pos n) f = omega (arith, f.sfits)
bits_is (negsuc n) f = omega (arith, f.sfits)

pub complement_is : (z : ℤ) → SFits w32 z → to_z w32 (4294967295 - of_z w32 z) ≡ complement z
complement_is (pos n) f = let h : n < 2 ^ 31 = f.sfits in signed_is (4294967295 - n) (omega arith) ∙ high (4294967295 - n) (omega arith) (omega arith) ∙ ap negsuc (omega arith)
complement_is (negsuc n) f =
    let h : n < 2 ^ 31 = f.sfits in
    let e : 4294967295 - (2 ^ 32 - suc n) ≡ n = omega arith in
    ap (to_z w32) e ∙ signed_is n (omega arith) ∙ low n h

pub left_is : (z : ℤ) (k : ℕ) → SFits w32 z → to_z w32 (of_z w32 z * 2 ^ k % 2 ^ 32) ≡ signed (bits z * 2 ^ k % 2 ^ 32)
left_is z k f = signed_is (of_z w32 z * 2 ^ k % 2 ^ 32) (omega arith) ∙ ap (λ (n : ℕ). signed (n * 2 ^ k % 2 ^ 32)) (bits_is z f)

shifted : (z : ℤ) (k : ℕ) → shr_z z (2 ^ k) ≡ extended z k
shifted (pos n) k = refl
shifted (negsuc n) k = refl

pub right_is : (z : ℤ) (k : ℕ) → SFits w32 z → to_z w32 (of_z w32 (shr_z (to_z w32 (of_z w32 z)) (2 ^ k))) ≡ extended z k
right_is z k f =
    ap (λ (a : ℤ). to_z w32 (of_z w32 (shr_z a (2 ^ k)))) (to_z-of_z w32 z f)
    ∙ to_z-of_z w32 (shr_z z (2 ^ k)) (record { sfits = lt_of_le_of_lt (mag_shr z (2 ^ k)) f.sfits })
    ∙ shifted z k

-- ---- back

pub bits_lt : (z : ℤ) → bits z < 2 ^ 32
bits_lt (pos n) = omega arith
bits_lt (negsuc n) = omega arith

pub low_lt : (x : Float) → to_uint_32 x < 2 ^ 32
unfolding to_uint_32
low_lt nan = lit< tt
low_lt (inf s) = lit< tt
low_lt (fin s m e) = bits_lt _

pub bits-signed : (n : ℕ) → n < 2 ^ 32 → bits (signed n) ≡ n
bits-signed n h = elim (halves n h) [ inl l ↦ ap bits l.1 ∙ omega (arith, l.0) | inr g ↦ ap bits g.1 ∙ omega (arith, g.0) ]

pub signed_range : (n : ℕ) → n < 2 ^ 32 → Int32 (signed n)
signed_range n h = elim (halves n h) [ inl l ↦ subst Int32 (sym l.1) l.0 | inr g ↦ subst Int32 (sym g.1) (omega (arith, g.0)) ]

pub bits_int : (x : Float) → bits (to_int_32 x) ≡ to_uint_32 x
unfolding to_int_32
bits_int x = bits-signed (to_uint_32 x) (low_lt x)

of_whole : (s : Bool) (n : ℕ) → n ≤ 2 ^ 53 → to_uint_32 (round binary64 s n 1) ≡ residue s n
of_whole s n h = residue_of_value (round binary64 s n 1) s n 1 (lit< tt) (round_whole binary64 s n h) ∙ ap (residue s) (div-one n)

pub low_natural : (n : ℕ) → n < 2 ^ 32 → to_uint_32 (number_of (pos n)) ≡ n
unfolding of_int
low_natural n h = of_whole false n (omega arith) ∙ omega arith

pub low_back : (z : ℤ) → Int32 z → to_uint_32 (number_of z) ≡ bits z
unfolding of_int
low_back (pos n) h = of_whole false n (omega arith)
low_back (negsuc n) h = of_whole true (suc n) (omega arith)

signed-bits : (z : ℤ) → Int32 z → signed (bits z) ≡ z
signed-bits (pos n) h = low (n % 2 ^ 32) (omega arith) ∙ ap pos (omega arith)
signed-bits (negsuc n) h = high (2 ^ 32 - 1 - n % 2 ^ 32) (omega arith) (omega arith) ∙ ap negsuc (omega arith)

pub int_back : (z : ℤ) → Int32 z → to_int_32 (number_of z) ≡ z
unfolding to_int_32
int_back z h = ap signed (low_back z h) ∙ signed-bits z h
