-- The laws of the operators. Assumes nothing.
use Rattle.std.proofs.Common.{◌≡◌, ℕ, zero, suc, ◌*◌, ◌/◌, ◌%◌, ◌^◌, ◌<◌, ℤ, pos, negsuc, sym, refl, ap, ◌∙◌, mod-eq_of_lt, mul-one, div-one, arith, lit<, w32, SFits, to_z, of_z}
use lib.Arith.{bin_ind}
use lib.Bits.{bit_and, bit_or, and_shr, and_mod, and_mask, or_shr, or_mod}
use lib.Ieee.{Float}
use Rattle.integers.specs.Words.{signed, to_int_32, number_of}
use Rattle.integers.specs.Bitwise.{bits, number_bitwise_op}
use Rattle.integers.specs.Shifts.{shift_count, extended, left_shift, signed_right_shift}
use Rattle.integers.specs.Laws.{Associates, Neutral}
use Rattle.integers.proofs.Words.{signed_is, bits_is, bits_lt, bits_int, bits-signed, signed_range, low_natural, int_back}

-- the operator keeps to 32 bits
abbrev Narrow : (ℕ → ℕ → ℕ) → Type 0
Narrow op = (a b : ℕ) → a < 2 ^ 32 → b < 2 ^ 32 → op a b < 2 ^ 32

-- ---- the machine's operators on two 32-bit integers

pub bitwise_is : (op : ℕ → ℕ → ℕ) → Narrow op → (x y : Float) (a b : ℤ) → SFits w32 a → SFits w32 b → a ≡ to_int_32 x → b ≡ to_int_32 y
    → number_of (to_z w32 (op (of_z w32 a) (of_z w32 b))) ≡ number_bitwise_op op x y
unfolding number_bitwise_op
bitwise_is op lt x y a b f g p q =
    let l = bits_is a f ∙ ap bits p in
    let r = bits_is b g ∙ ap bits q in
    let e : op (of_z w32 a) (of_z w32 b) ≡ op (bits (to_int_32 x)) (bits (to_int_32 y)) = cc in
    ap (λ (n : ℕ). number_of (to_z w32 n)) e ∙ ap number_of (signed_is _ (lt _ _ (bits_lt (to_int_32 x)) (bits_lt (to_int_32 y))))

-- ---- grouping

again : (n : ℕ) → n < 2 ^ 32 → bits (to_int_32 (number_of (signed n))) ≡ n
again n h = ap bits (int_back (signed n) (signed_range n h)) ∙ bits-signed n h

pub associates : (op : ℕ → ℕ → ℕ) → Narrow op → ((a b c : ℕ) → op (op a b) c ≡ op a (op b c)) → Associates (number_bitwise_op op)
unfolding number_bitwise_op
associates op lt assoc x y z =
    let a = bits (to_int_32 x) in
    let b = bits (to_int_32 y) in
    let c = bits (to_int_32 z) in
    let l = again (op a b) (lt a b (bits_lt (to_int_32 x)) (bits_lt (to_int_32 y))) in
    let r = again (op b c) (lt b c (bits_lt (to_int_32 y)) (bits_lt (to_int_32 z))) in
    ap (λ (n : ℕ). number_of (signed n)) (ap (λ (n : ℕ). op n c) l ∙ assoc a b c ∙ ap (op a) (sym r))

-- `&` and `|` of whole numbers: by halves, and digit by digit
module _ (op : ℕ → ℕ → ℕ) (shr : (a b k : ℕ) → op a b / 2 ^ k ≡ op (a / 2 ^ k) (b / 2 ^ k)) (low : (a b k : ℕ) → op a b % 2 ^ k ≡ op (a % 2 ^ k) (b % 2 ^ k)) where
  by_digits : (a b : ℕ) → a / 2 ≡ b / 2 → a % 2 ≡ b % 2 → a ≡ b
  by_digits a b h k = omega arith

  regroups : ((b c : ℕ) → op (op 0 b) c ≡ op 0 (op b c)) → ((x y z : ℕ) → x < 2 → y < 2 → z < 2 → op (op x y) z ≡ op x (op y z)) → (a b c : ℕ) → op (op a b) c ≡ op a (op b c)
  regroups base digit =
      bin_ind (λ (n : ℕ). (b c : ℕ) → op (op n b) c ≡ op n (op b c)) base
      (λ n ih b c. by_digits _ _
      (shr (op n b) c 1 ∙ ap (λ (x : ℕ). op x (c / 2)) (shr n b 1) ∙ ih (b / 2) (c / 2) ∙ sym (shr n (op b c) 1 ∙ ap (op (n / 2)) (shr b c 1)))
      (low (op n b) c 1 ∙ ap (λ (x : ℕ). op x (c % 2)) (low n b 1) ∙ digit (n % 2) (b % 2) (c % 2) (omega arith) (omega arith) (omega arith) ∙ sym (low n (op b c) 1 ∙ ap (op (n % 2)) (low b c 1))))

-- a fact of three binary digits, from its eight cases
digits : (P : ℕ → ℕ → ℕ → Type 0) → P 0 0 0 → P 0 0 1 → P 0 1 0 → P 0 1 1 → P 1 0 0 → P 1 0 1 → P 1 1 0 → P 1 1 1
    → (x y z : ℕ) → x < 2 → y < 2 → z < 2 → P x y z
digits P a b c d e f g h zero zero zero i j k = a
digits P a b c d e f g h zero zero (suc zero) i j k = b
digits P a b c d e f g h zero (suc zero) zero i j k = c
digits P a b c d e f g h zero (suc zero) (suc zero) i j k = d
digits P a b c d e f g h (suc zero) zero zero i j k = e
digits P a b c d e f g h (suc zero) zero (suc zero) i j k = f
digits P a b c d e f g h (suc zero) (suc zero) zero i j k = g
digits P a b c d e f g h (suc zero) (suc zero) (suc zero) i j k = h
digits P a b c d e f g h zero zero (suc (suc z)) i j k = absurd (omega arith)
digits P a b c d e f g h zero (suc zero) (suc (suc z)) i j k = absurd (omega arith)
digits P a b c d e f g h zero (suc (suc y)) z i j k = absurd (omega arith)
digits P a b c d e f g h (suc zero) zero (suc (suc z)) i j k = absurd (omega arith)
digits P a b c d e f g h (suc zero) (suc zero) (suc (suc z)) i j k = absurd (omega arith)
digits P a b c d e f g h (suc zero) (suc (suc y)) z i j k = absurd (omega arith)
digits P a b c d e f g h (suc (suc x)) y z i j k = absurd (omega arith)

abbrev Grouped : (ℕ → ℕ → ℕ) → ℕ → ℕ → ℕ → Type 0
Grouped op x y z = op (op x y) z ≡ op x (op y z)

pub and_assoc : (a b c : ℕ) → Grouped bit_and a b c
and_assoc = regroups bit_and and_shr and_mod (λ b c. refl) (digits (Grouped bit_and) refl refl refl refl refl refl refl refl)

pub or_assoc : (a b c : ℕ) → Grouped bit_or a b c
or_assoc = regroups bit_or or_shr or_mod (λ b c. refl) (digits (Grouped bit_or) refl refl refl refl refl refl refl refl)

-- ---- neutral operands

neutral : (op : Float → Float → Float) (n : ℕ) → ((x : Float) → op x (number_of (pos n)) ≡ number_of (to_int_32 x)) → Neutral op n
neutral op n f = record { converts = f; keeps = λ z h. f (number_of z) ∙ ap number_of (int_back z h) }

pub bitwise_neutral : (op : ℕ → ℕ → ℕ) (n : ℕ) → n < 2 ^ 32 → ((a : ℕ) → a < 2 ^ 32 → op a n ≡ a) → Neutral (number_bitwise_op op) n
unfolding number_bitwise_op to_int_32
bitwise_neutral op n l same = neutral (number_bitwise_op op) n (λ x.
    ap (λ (k : ℕ). number_of (signed (op (bits (to_int_32 x)) k))) (bits_int (number_of (pos n)) ∙ low_natural n l)
    ∙ ap (λ (k : ℕ). number_of (signed k)) (same (bits (to_int_32 x)) (bits_lt (to_int_32 x)) ∙ bits_int x))

pub and_ones : (a : ℕ) → a < 2 ^ 32 → bit_and a 4294967295 ≡ a
and_ones a h = and_mask a 32 ∙ mod-eq_of_lt h

count_zero : shift_count (number_of (pos 0)) ≡ 0
unfolding shift_count
count_zero = ap (λ (n : ℕ). n % 32) (low_natural 0 (lit< tt))

pub left_neutral : Neutral left_shift 0
unfolding left_shift to_int_32
left_neutral = neutral left_shift 0 (λ x.
    ap (λ (k : ℕ). number_of (signed (bits (to_int_32 x) * 2 ^ k % 2 ^ 32))) count_zero
    ∙ ap (λ (k : ℕ). number_of (signed (k % 2 ^ 32))) (mul-one (bits (to_int_32 x)))
    ∙ ap (λ (k : ℕ). number_of (signed k)) (mod-eq_of_lt (bits_lt (to_int_32 x)) ∙ bits_int x))

unmoved : (z : ℤ) → extended z 0 ≡ z
unmoved (pos n) = ap pos (div-one n)
unmoved (negsuc n) = ap negsuc (div-one n)

pub right_neutral : Neutral signed_right_shift 0
unfolding signed_right_shift
right_neutral = neutral signed_right_shift 0 (λ x. ap (λ (k : ℕ). number_of (extended (to_int_32 x) k)) count_zero ∙ ap number_of (unmoved (to_int_32 x)))
