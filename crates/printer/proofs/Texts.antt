-- The text that a number writer has for a number is ASCII.
use Rattle.std.proofs.Common.{◌≡◌, ℕ, ◌<◌, ◌≤◌, Bool, true, false, cond, ◌&&◌, eqb, leb, List, [], ◌∷◌, ◌++◌, pos, Some, None, codes, Option, sym, refl, ap, ◌∙◌, arith}
use lib.Ieee.{Float, nan, inf, fin, binary64, of_int, round}
use lib.Utf8.{encodes}
use Rattle.std.proofs.lemmas.Bool.{and_parts, leb-true, eqb-true}
use Rattle.std.proofs.lemmas.Str.{encode_ascii}
use Rattle.std.specs.Float.{float_with_sign}
use Rattle.writer.specs.Literal.{all_digits, read_on, decimal_digits, decimal_integer, before_e, after_e, exponent, scaled, literal}
use Rattle.writer.specs.Writers.{NumberText, Exact, Wrote}
use Rattle.forms.specs.Numerals.{Gives}
use Rattle.forms.specs.Show.{written}

never : {X : Type 0} (n : ℕ) → ◌≡◌ {A = Option ℕ} None (Some n) → X
never n p = let z : ◌≡◌ {A = ℕ} 0 1 = cc in absurd (omega arith)

digit_first : (c : ℕ) (cs : List ℕ) → all_digits (c ∷ cs) ≡ true → (c < 128) × (all_digits cs ≡ true)
digit_first c cs h =
    let k = and_parts (leb 48 c && leb c 57) (all_digits cs) h in
    let l : c ≤ 57 = leb-true c 57 (and_parts (leb 48 c) (leb c 57) k.0).1 in
    (omega arith, k.1)

one_more : (c : ℕ) (cs : List ℕ) → c < 128 → encodes cs ≡ cs → encodes (c ∷ cs) ≡ c ∷ cs
one_more c cs l e = ap (λ r. r ++ encodes cs) (encode_ascii c l) ∙ ap (λ r. c ∷ r) e

digits_ascii : (ds : List ℕ) → all_digits ds ≡ true → encodes ds ≡ ds
digits_ascii [] h = refl
digits_ascii (c ∷ cs) h = let k = digit_first c cs h in one_more c cs k.0 (digits_ascii cs k.1)

digits_all : (ds : List ℕ) (n : ℕ) → decimal_digits ds ≡ Some n → all_digits ds ≡ true
digits_all [] n h = never n h
digits_all (c ∷ cs) n h = go (all_digits (c ∷ cs)) h
  where
    go : (b : Bool) → cond b (Some (read_on 0 (c ∷ cs))) None ≡ Some n → b ≡ true
    go true p = refl
    go false p = never n p

integer_all : (ds : List ℕ) (n : ℕ) → decimal_integer ds ≡ Some n → all_digits ds ≡ true
integer_all [] n h = never n h
integer_all (c ∷ []) n h = digits_all (c ∷ []) n h
integer_all (c ∷ d ∷ ds) n h = go (eqb c 48) h
  where
    go : (b : Bool) → cond b None (decimal_digits (c ∷ d ∷ ds)) ≡ Some n → all_digits (c ∷ d ∷ ds) ≡ true
    go true p = never n p
    go false p = digits_all (c ∷ d ∷ ds) n p

parts_ascii : (t : List ℕ) (k : ℕ) → all_digits (before_e t) ≡ true → exponent (after_e t) ≡ Some k → encodes t ≡ t
parts_ascii [] k a e = refl
parts_ascii (c ∷ cs) k a e = go (eqb c 101) refl (parts_ascii cs k) a e
  where
    go : (b : Bool) → eqb c 101 ≡ b → (all_digits (before_e cs) ≡ true → exponent (after_e cs) ≡ Some k → encodes cs ≡ cs)
        → all_digits (cond b [] (c ∷ before_e cs)) ≡ true → exponent (cond b (Some cs) (after_e cs)) ≡ Some k → encodes (c ∷ cs) ≡ c ∷ cs
    go true p on a e = let l : c ≡ 101 = eqb-true c 101 p in one_more c cs (omega arith) (digits_ascii cs (digits_all cs k e))
    go false p on a e = let d = digit_first c (before_e cs) a in one_more c cs d.0 (on d.1 e)

scaled_parts : (a b : Option ℕ) (n : ℕ) → scaled a b ≡ Some n → (m : ℕ) × (k : ℕ) × (a ≡ Some m) × (b ≡ Some k)
scaled_parts None b n h = never n h
scaled_parts (Some m) None n h = never n h
scaled_parts (Some m) (Some k) n h = (m, k, refl, refl)

literal_ascii : (t : List ℕ) (n : ℕ) → literal t ≡ Some n → encodes t ≡ t
unfolding literal
literal_ascii t n h =
    let p = scaled_parts (decimal_integer (before_e t)) (exponent (after_e t)) n h in
    parts_ascii t p.1 (integer_all (before_e t) p.0 p.2) p.3

-- the bytes in what a writer gives
abbrev pub bytes_in : Option NumberText → List ℕ
bytes_in None = []
bytes_in (Some t) = t.bytes

wrote_bytes : (o : Option (List ℕ)) (r : Option NumberText) → Wrote o r → written o ≡ bytes_in r
wrote_bytes None None h = refl
wrote_bytes None (Some t) h = absurd h
wrote_bytes (Some s) None h = absurd h
wrote_bytes (Some s) (Some t) h = sym h.0

module _ (w : Float → Option (List ℕ)) (zero : w (of_int binary64 (pos 0)) ≡ Some (codes "0")) (one : w (of_int binary64 (pos 1)) ≡ Some (codes "1")) (exact : Exact w) where
  text_ascii : (x : Float) (o : Option (List ℕ)) → w x ≡ o → encodes (written o) ≡ written o
  text_ascii x None e = refl
  text_ascii x (Some t) e = let p = exact x t e in literal_ascii t p.0 p.2

  -- what it gives for the magnitude of x
  pub gives : (x : Float) (r : Option NumberText) → Wrote (w (float_with_sign false x)) r → Gives w x (bytes_in r)
  unfolding float_with_sign of_int round
  gives nan r h = tt
  gives (inf s) r h = (one, zero)
  gives (fin s m e) r h = text_ascii (fin false m e) (w (fin false m e)) refl ∙ wrote_bytes (w (fin false m e)) r h
