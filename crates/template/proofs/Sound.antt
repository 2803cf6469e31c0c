-- What the machine reads to an end is a raw part, and what it cooks is its cooked text.
use Rattle.std.proofs.Common.{◌≡◌, ℕ, suc, ◌+◌, ◌-◌, ◌*◌, ◌/◌, ◌%◌, true, false, cond, eqb, leb, ltb, List, [], ◌∷◌, ◌++◌, Some, None, Option, sym, refl, ap, ◌∙◌, subst, arith}
use Rattle.std.proofs.lemmas.Bool.{eqb-true, eqb-false, cond_both, false≢true}
use Rattle.std.proofs.lemmas.Bool.Decides.{nat_tests}
use Rattle.template.specs.declared.machine.State.{State}
use Rattle.template.specs.declared.machine.State.TheVariants.{Start, Dollar, Backslash, Zero, Unicode, Digits, Open, Braced, Lead, Bad}
use Rattle.template.specs.declared.machine.Cooked.TheVariants.{One}
use Rattle.template.specs.declared.machine.Step.{Step}
use Rattle.std.specs.Char.Escape.{encode_utf16}
use Rattle.units.specs.CodePoints.{is_lead, is_trail}
use Rattle.template.specs.Raw.{begins, is_digit, is_plain, is_non_escape, is_line, hex_value, single_escape, Hex, Raw}
use Rattle.template.specs.Raw.Hex.{no_digit, one_more}
use Rattle.template.specs.Raw.Raw.{end, dollar, plain, pair, continuation, single, non_escape, non_escape_pair, null, hex, unicode, code_point_escape}
use Rattle.template.specs.Machine.{to, simple, character, escape, fixed, braced, code_point, grown, stepped, units, ends, emitted}
use Rattle.template.proofs.Digit.{two_below, four_below, leb_below}

-- the machine's value is the digits' value, unless it is too large
abbrev Near : ℕ → ℕ → Type 0
Near x v = leb x 0x10FFFF ≡ true → x ≡ v

-- n digits, and then a raw part
record Counted (n : ℕ) (s c : List ℕ) : Type 0 where
  value : ℕ
  left : List ℕ
  later : List ℕ
  digits : Hex n s value left
  raw : Raw left later
  is : c ≡ encode_utf16 value ++ later

-- what the rest of a text and of its cooked text are, read from that state on
abbrev Rest : State → List ℕ → List ℕ → Type 0
Rest Start us c = Raw us c
Rest Dollar us c = (begins (λ u. eqb u 0x7B) us ≡ false) × Raw us c
Rest Zero us c = (begins is_digit us ≡ false) × Raw us c
Rest Backslash us c = Raw (0x5C ∷ us) c
Rest Unicode us c = Raw (0x5C ∷ 0x75 ∷ us) c
Rest (Digits n x) us c = (k v : ℕ) (s : List ℕ) → Near x v → Hex k s v us → Counted (n + suc k) s c
Rest Open us c = Raw (0x5C ∷ 0x75 ∷ 0x7B ∷ us) c
Rest (Braced x) us c = (k v : ℕ) (s : List ℕ) → Near x v → Hex (suc k) s v us → Raw (0x5C ∷ 0x75 ∷ 0x7B ∷ s) c
Rest Lead us c = (u : ℕ) → is_lead u ≡ true → Raw (u ∷ us) (u ∷ c) × Raw (0x5C ∷ u ∷ us) (u ∷ c)
Rest Bad us c = ⊥

module _ (u : ℕ) (us c : List ℕ) where
  -- the goal at a step, where the text so far and this unit make f of what the step cooks to
  abbrev Back : (List ℕ → Type 0) → Step → Type 0
  Back f z = Rest z.next us c → f (units z.cooked ++ c)

  by_character : Back (Raw (u ∷ us)) (character u)
  by_character =
      let P = Back (Raw (u ∷ us)) in
      cond_both (is_plain u) _ _ P (λ e r. plain e r) (λ _.
      cond_both (eqb u 0x5C) _ _ P (λ e r. subst (λ w. Raw (w ∷ us) c) (sym (eqb-true u 0x5C e)) r) (λ _.
      cond_both (eqb u 0x24) _ _ P (λ e r. subst (λ w. Raw (w ∷ us) (w ∷ c)) (sym (eqb-true u 0x24 e)) (dollar r.0 r.1)) (λ _.
      cond_both (is_lead u) _ _ P (λ e r. (r u e).0) (λ _ r. absurd r))))

  by_simple : (P : Step → Type 0) (other : Step) → ((v : ℕ) → single_escape u ≡ Some v → P (to Start (One v))) → P other → P (simple (single_escape u) other)
  by_simple P other f g = go (single_escape u) refl
    where
      go : (o : Option ℕ) → single_escape u ≡ o → P (simple o other)
      go (Some v) e = f v e
      go None e = g

  as_hex : Counted 2 us c → Raw (0x5C ∷ 0x78 ∷ us) c
  as_hex k =
      let small = two_below k.digits in
      let one : encode_utf16 k.value ++ k.later ≡ k.value ∷ k.later = rw small in
      subst (Raw (0x5C ∷ 0x78 ∷ us)) (sym (k.is ∙ one)) (hex k.digits k.raw)

  by_escape : Back (Raw (0x5C ∷ u ∷ us)) (escape u)
  by_escape =
      let P = Back (Raw (0x5C ∷ u ∷ us)) in
      let at : (w : ℕ) (t : List ℕ) → eqb u w ≡ true → Raw (0x5C ∷ w ∷ us) t → Raw (0x5C ∷ u ∷ us) t =
      λ w t e. subst (λ x. Raw (0x5C ∷ x ∷ us) t) (sym (eqb-true u w e)) in
      cond_both (is_non_escape u) _ _ P (λ e r. non_escape e r) (λ _.
      by_simple P _ (λ v e r. single e r) (
      cond_both (is_line u) _ _ P (λ e r. continuation e r) (λ _.
      cond_both (eqb u 0x30) _ _ P (λ e r. at 0x30 (0 ∷ c) e (null r.0 r.1)) (λ _.
      cond_both (eqb u 0x78) _ _ P (λ e r. at 0x78 c e (as_hex (r 0 0 us (λ _. refl) no_digit))) (λ _.
      cond_both (eqb u 0x75) _ _ P (λ e r. at 0x75 c e r) (λ _.
      cond_both (is_lead u) _ _ P (λ e r. (r u e).1) (λ _ r. absurd r)))))))

  by_code_point : (f : List ℕ → Type 0) (x : ℕ) → (leb x 0x10FFFF ≡ true → Raw us c → f (encode_utf16 x ++ c)) → Back f (code_point x)
  by_code_point f x g =
      cond_both (ltb x 0x10000) _ _ (Back f)
      (λ e r. let one : encode_utf16 x ++ c ≡ x ∷ c = rw e in subst f one (g (leb_below x e) r))
      (λ e.
      cond_both (leb x 0x10FFFF) _ _ (Back f)
      (λ h r.
      let two : encode_utf16 x ++ c ≡ (0xD800 + (x - 0x10000) / 0x400) ∷ ((0xDC00 + (x - 0x10000) % 0x400) ∷ c) = rw e in
      subst f two (g h r))
      (λ _ r. absurd r))

  grown_near : (x v m : ℕ) → Near x v → Near (cond (leb x 0x10FFFF) (x * 16 + m) x) (v * 16 + m)
  grown_near x v m near h = grind (arith, nat_tests, near)

  by_fixed : (n x : ℕ) → Back (Rest (Digits n x) (u ∷ us)) (fixed n (grown x (hex_value u)))
  by_fixed n x = go (hex_value u) refl
    where
      go : (o : Option ℕ) → hex_value u ≡ o → Back (Rest (Digits n x) (u ∷ us)) (fixed n (grown x o))
      go None e = λ r. absurd r
      go (Some m) e =
          cond_both (eqb n 0) _ _ (Back (Rest (Digits n x) (u ∷ us)))
          (λ z.
          by_code_point (Rest (Digits n x) (u ∷ us)) _
          (λ h r k v s near d.
          let last = eqb-true n 0 z in
          let count : suc k ≡ n + suc k = omega arith in
          record {
            value = v * 16 + m;
            left = us;
            later = c;
            digits = subst (λ i. Hex i s (v * 16 + m) us) count (one_more d e);
            raw = r;
            is = ap (λ t. encode_utf16 t ++ c) (grown_near x v m near h);
          }))
          (λ z r k v s near d.
          let more = eqb-false n 0 z in
          let count : n - 1 + suc (suc k) ≡ n + suc k = omega (arith, more) in
          subst (λ i. Counted i s c) count (r (suc k) (v * 16 + m) s (grown_near x v m near) (one_more d e)))

  by_unicode : Back (Raw (0x5C ∷ 0x75 ∷ u ∷ us)) (fixed 3 (grown 0 (hex_value u)))
  by_unicode r =
      let k = by_fixed 3 0 r 0 0 (u ∷ us) (λ _. refl) no_digit in
      let small = four_below k.digits in
      let one : encode_utf16 k.value ++ k.later ≡ k.value ∷ k.later = rw small in
      subst (Raw (0x5C ∷ 0x75 ∷ u ∷ us)) (sym (k.is ∙ one)) (unicode k.digits k.raw)

  by_braced : (x k v : ℕ) (s : List ℕ) → Near x v → Hex k s v (u ∷ us) → Back (Raw (0x5C ∷ 0x75 ∷ 0x7B ∷ s)) (braced (grown x (hex_value u)))
  by_braced x k v s near d = go (hex_value u) refl
    where
      go : (o : Option ℕ) → hex_value u ≡ o → Back (Raw (0x5C ∷ 0x75 ∷ 0x7B ∷ s)) (braced (grown x o))
      go None e r = absurd r
      go (Some m) e r = r k (v * 16 + m) s (grown_near x v m near) (one_more d e)

  by_close : (x : ℕ) → eqb u 0x7D ≡ true → Back (Rest (Braced x) (u ∷ us)) (code_point x)
  by_close x e =
      by_code_point (Rest (Braced x) (u ∷ us)) x
      (λ h r k v s near d.
      let is = near h in
      let ok : leb v 0x10FFFF ≡ true = subst (λ y. leb y 0x10FFFF ≡ true) is h in
      let ds : Hex (suc k) s v (0x7D ∷ us) = subst (λ w. Hex (suc k) s v (w ∷ us)) (eqb-true u 0x7D e) d in
      subst (λ y. Raw (0x5C ∷ 0x75 ∷ 0x7B ∷ s) (encode_utf16 y ++ c)) (sym is) (code_point_escape ds ok r))

  back : (s : State) → Back (Rest s (u ∷ us)) (stepped s u)
  back Start = by_character
  back Dollar =
      cond_both (eqb u 0x7B) _ _ (Back (Rest Dollar (u ∷ us))) (λ _ r. absurd r) (λ e r. (e, by_character r))
  back Zero = cond_both (is_digit u) _ _ (Back (Rest Zero (u ∷ us))) (λ _ r. absurd r) (λ e r. (e, by_character r))
  back Backslash = by_escape
  back Unicode =
      cond_both (eqb u 0x7B) _ _ (Back (Rest Unicode (u ∷ us)))
      (λ e r. subst (λ w. Raw (0x5C ∷ 0x75 ∷ w ∷ us) c) (sym (eqb-true u 0x7B e)) r)
      (λ _. by_unicode)
  back (Digits n x) = by_fixed n x
  back Open = by_braced 0 0 0 (u ∷ us) (λ _. refl) no_digit
  back (Braced x) =
      cond_both (eqb u 0x7D) _ _ (Back (Rest (Braced x) (u ∷ us))) (by_close x)
      (λ _ r k v s near d. by_braced x (suc k) v s near d r)
  back Lead =
      cond_both (is_trail u) _ _ (Back (Rest Lead (u ∷ us)))
      (λ e r w lead. (pair lead e r, non_escape_pair lead e r))
      (λ _ r. absurd r)
  back Bad = λ r. r

at_end : (s : State) → ends s [] ≡ true → Rest s [] []
at_end Start e = end
at_end Dollar e = (refl, end)
at_end Zero e = (refl, end)
at_end Backslash e = absurd (false≢true e)
at_end Unicode e = absurd (false≢true e)
at_end (Digits n x) e = absurd (false≢true e)
at_end Open e = absurd (false≢true e)
at_end (Braced x) e = absurd (false≢true e)
at_end Lead e = absurd (false≢true e)
at_end Bad e = absurd (false≢true e)

rest : (us : List ℕ) (s : State) → ends s us ≡ true → Rest s us (emitted s us)
rest [] s e = at_end s e
rest (u ∷ us) s e = back u us (emitted (stepped s u).next us) s (rest us (stepped s u).next e)

pub sound : (us : List ℕ) → ends Start us ≡ true → Raw us (emitted Start us)
sound us e = rest us Start e
