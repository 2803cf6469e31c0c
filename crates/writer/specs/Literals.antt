-- The digits of a number are a literal of that value, with and without an exponent. Assumes nothing.
use Rattle.std.proofs.Common.{rules, mul-one, arith, ap, ◌∙◌}
use Rattle.std.specs.Prelude.{◌≡◌, ℕ, zero, suc, ◌*◌, ◌^◌, ◌<◌, ◌≤◌, Bool, true, false, cond, ◌&&◌, List, [], ◌∷◌, ◌++◌, length, Some, None, codes, decimal, ◌==◌, nat_le, slice_index, refl}
use Rattle.std.proofs.lemmas.Fmt.{decimal_digit, decimal_nonempty, digits_decimal, digits_value-decimal, first_decimal}
use Rattle.std.proofs.lemmas.Str.Parse.{IsNumeralModel, IsDigitsTest, FoldsDigits, numerals_by_fold}
use Rattle.std.proofs.lemmas.Bool.{and_parts, leb-true, ne_eqb}
use Rattle.writer.specs.Literal.{all_digits, read_on, decimal_digits, decimal_integer, before_e, after_e, literal}

tells : IsDigitsTest (λ ds. all_digits ds ≡ true)
tells = search rules

folds : FoldsDigits read_on
folds = search rules

own : IsNumeralModel (λ ds. all_digits ds ≡ true) (read_on 0)
own = numerals_by_fold _ tells read_on folds

digits_read : (ds : List ℕ) → 0 < length ds → all_digits ds ≡ true → decimal_digits ds ≡ Some (read_on 0 ds)
digits_read [] l h = absurd (omega arith)
digits_read (c ∷ cs) l h = ap (λ (b : Bool). cond b (Some (read_on 0 (c ∷ cs))) None) h

integer_read : (ds : List ℕ) → 0 < length ds → all_digits ds ≡ true → (slice_index ds 0 ≡ 48 → length ds ≡ 1) → decimal_integer ds ≡ Some (read_on 0 ds)
integer_read [] l h z = absurd (omega arith)
integer_read (c ∷ []) l h z = digits_read (c ∷ []) l h
integer_read (c ∷ d ∷ ds) l h z =
    ap (λ (b : Bool). cond b None (decimal_digits (c ∷ d ∷ ds))) (ne_eqb c 48 (λ e. omega (arith, z e)))
    ∙ digits_read (c ∷ d ∷ ds) l h

-- a digit is no `e`
digit_first : (c : ℕ) (cs : List ℕ) → all_digits (c ∷ cs) ≡ true → ((c == 101) ≡ false) × (all_digits cs ≡ true)
digit_first c cs h =
    let k = and_parts (nat_le 48 c && nat_le c 57) (all_digits cs) h in
    let l : c ≤ 57 = leb-true c 57 (and_parts (nat_le 48 c) (nat_le c 57) k.0).1 in
    (ne_eqb c 101 (λ e. omega arith), k.1)

before_all : (ds : List ℕ) → all_digits ds ≡ true → (before_e ds ≡ ds) × (after_e ds ≡ None)
before_all [] h = (refl, refl)
before_all (c ∷ cs) h =
    let k = digit_first c cs h in
    let on = before_all cs k.1 in
    (ap (λ (b : Bool). cond b [] (c ∷ before_e cs)) k.0 ∙ ap (λ (ds : List ℕ). c ∷ ds) on.0, ap (λ (b : Bool). cond b (Some cs) (after_e cs)) k.0 ∙ on.1)

before_e_lem : (ds ks : List ℕ) → all_digits ds ≡ true → (before_e (ds ++ (101 ∷ ks)) ≡ ds) × (after_e (ds ++ (101 ∷ ks)) ≡ Some ks)
before_e_lem [] ks h = (refl, refl)
before_e_lem (c ∷ cs) ks h =
    let k = digit_first c cs h in
    let on = before_e_lem cs ks k.1 in
    let rest = cs ++ (101 ∷ ks) in
    (ap (λ (b : Bool). cond b [] (c ∷ before_e rest)) k.0 ∙ ap (λ (ds : List ℕ). c ∷ ds) on.0, ap (λ (b : Bool). cond b (Some rest) (after_e rest)) k.0 ∙ on.1)

leads : (n : ℕ) → n < 2 ^ 64 → slice_index (decimal n) 0 ≡ 48 → length (decimal n) ≡ 1
leads zero h e = ap length (decimal_digit 0 (omega arith))
leads (suc n) h e = absurd (omega (arith, first_decimal (suc n) (omega arith) h))

integer_decimal : (n : ℕ) → n < 2 ^ 64 → decimal_integer (decimal n) ≡ Some n
integer_decimal n h = integer_read (decimal n) (decimal_nonempty n h) (digits_decimal own n h) (leads n h) ∙ ap Some (digits_value-decimal own n h)

pub literal-decimal : (n : ℕ) → n < 2 ^ 64 → literal (decimal n) ≡ Some n
unfolding literal
literal-decimal n h =
    let b = before_all (decimal n) (digits_decimal own n h) in
    rw (b.0, b.1, integer_decimal n h) (ap Some (mul-one n))

pub literal_exponent : (n k : ℕ) → n < 2 ^ 64 → k < 2 ^ 64 → literal (decimal n ++ (codes "e" ++ decimal k)) ≡ Some (n * 10 ^ k)
unfolding literal
literal_exponent n k h l =
    let b = before_e_lem (decimal n) (decimal k) (digits_decimal own n h) in
    let d = digits_read (decimal k) (decimal_nonempty k l) (digits_decimal own k l) ∙ ap Some (digits_value-decimal own k l) in
    rw (b.0, b.1, integer_decimal n h, d) refl
