use Rattle.std.proofs.Common.{◌≡◌, ℕ, ◌-◌, ◌<◌, Bool, false, ◌≢◌, List, ◌∷◌, length, get_or, take, drop, sym, refl, ap, ◌∙◌, arith, rules, ltb-false, ltb-true}
use Rattle.std.proofs.lemmas.List.{nil_from_length}
use Rattle.std.proofs.lemmas.Slice.{first_rest}
use Rattle.std.proofs.lemmas.Bool.{ne_eqb}
use Rattle.words.specs.Words.{reserved}
use Rattle.words.proofs.reserved.is_reserved.Goals as goal

-- the text is judged by its first letter f and the rest
letter : (f : ℕ) (text : List ℕ) (r : Bool) → 0 < length text → f ≡ get_or text 0 0 → r ≡ reserved (f ∷ take (length text - 1) (drop 1 text)) → r ≡ reserved text
letter f text r h e k = k ∙ sym (ap reserved (first_rest text 0 h) ∙ ap (λ x. reserved (x ∷ take (length text - 1) (drop 1 text))) (sym e))

-- no reserved word begins with another unit
abbrev Other : ℕ → Type 0
Other f = (f ≢ 97) × (f ≢ 98) × (f ≢ 99) × (f ≢ 100) × (f ≢ 101) × (f ≢ 102) × (f ≢ 105) × (f ≢ 110) × (f ≢ 114) × (f ≢ 115) × (f ≢ 116) × (f ≢ 118) × (f ≢ 119) × (f ≢ 121)

other : (f : ℕ) (rest : List ℕ) → Other f → false ≡ reserved (f ∷ rest)
unfolding reserved
other f rest (a, b, c, d, e, g, i, n, r, s, t, v, w, y) =
    rw (ne_eqb f 97 a, ne_eqb f 98 b, ne_eqb f 99 c, ne_eqb f 100 d, ne_eqb f 101 e, ne_eqb f 102 g, ne_eqb f 105 i, ne_eqb f 110 n, ne_eqb f 114 r, ne_eqb f 115 s, ne_eqb f 116 t, ne_eqb f 118 v, ne_eqb f 119 w, ne_eqb f 121 y) refl

pub returns-in_default : goal.returns-in_default
unfolding reserved
returns-in_default c = sym (ap reserved (nil_from_length c.args.text.now (omega (arith, ltb-true))))

pub returns-in-Some-a : goal.returns-in-Some-a
unfolding reserved
returns-in-Some-a c = letter 97 c.args.text.now _ (omega (arith, ltb-false)) (omega (arith, c.in-Some-a.ensures.value.1)) c.spells_one.ensures

pub returns-in-Some-b : goal.returns-in-Some-b
unfolding reserved
returns-in-Some-b c = letter 98 c.args.text.now _ (omega (arith, ltb-false)) (omega (arith, c.in-Some-b.ensures.value.1)) c.spells_one-in-Some-b.ensures

pub returns-in-Some-c : goal.returns-in-Some-c
unfolding reserved
returns-in-Some-c c = letter 99 c.args.text.now _ (omega (arith, ltb-false)) (omega (arith, c.in-Some-c.ensures.value.1)) c.spells_one-in-Some-c.ensures

pub returns-in-Some-d : goal.returns-in-Some-d
unfolding reserved
returns-in-Some-d c = letter 100 c.args.text.now _ (omega (arith, ltb-false)) (omega (arith, c.in-Some-d.ensures.value.1)) c.spells_one-in-Some-d.ensures

pub returns-in-Some-e : goal.returns-in-Some-e
unfolding reserved
returns-in-Some-e c = letter 101 c.args.text.now _ (omega (arith, ltb-false)) (omega (arith, c.in-Some-e.ensures.value.1)) c.spells_one-in-Some-e.ensures

pub returns-in-Some-f : goal.returns-in-Some-f
unfolding reserved
returns-in-Some-f c = letter 102 c.args.text.now _ (omega (arith, ltb-false)) (omega (arith, c.in-Some-f.ensures.value.1)) c.spells_one-in-Some-f.ensures

pub returns-in-Some-i : goal.returns-in-Some-i
unfolding reserved
returns-in-Some-i c = letter 105 c.args.text.now _ (omega (arith, ltb-false)) (omega (arith, c.in-Some-i.ensures.value.1)) c.spells_one-in-Some-i.ensures

pub returns-in-Some-n : goal.returns-in-Some-n
unfolding reserved
returns-in-Some-n c = letter 110 c.args.text.now _ (omega (arith, ltb-false)) (omega (arith, c.in-Some-n.ensures.value.1)) c.spells_one-in-Some-n.ensures

pub returns-in-Some-r : goal.returns-in-Some-r
unfolding reserved
returns-in-Some-r c = letter 114 c.args.text.now _ (omega (arith, ltb-false)) (omega (arith, c.in-Some-r.ensures.value.1)) c.spells_one-in-Some-r.ensures

pub returns-in-Some-s : goal.returns-in-Some-s
unfolding reserved
returns-in-Some-s c = letter 115 c.args.text.now _ (omega (arith, ltb-false)) (omega (arith, c.in-Some-s.ensures.value.1)) c.spells_one-in-Some-s.ensures

pub returns-in-Some-t : goal.returns-in-Some-t
unfolding reserved
returns-in-Some-t c = letter 116 c.args.text.now _ (omega (arith, ltb-false)) (omega (arith, c.in-Some-t.ensures.value.1)) c.spells_one-in-Some-t.ensures

pub returns-in-Some-v : goal.returns-in-Some-v
unfolding reserved
returns-in-Some-v c = letter 118 c.args.text.now _ (omega (arith, ltb-false)) (omega (arith, c.in-Some-v.ensures.value.1)) c.spells_one-in-Some-v.ensures

pub returns-in-Some-w : goal.returns-in-Some-w
unfolding reserved
returns-in-Some-w c = letter 119 c.args.text.now _ (omega (arith, ltb-false)) (omega (arith, c.in-Some-w.ensures.value.1)) c.spells_one-in-Some-w.ensures

pub returns-in-Some-y : goal.returns-in-Some-y
unfolding reserved
returns-in-Some-y c = letter 121 c.args.text.now _ (omega (arith, ltb-false)) (omega (arith, c.in-Some-y.ensures.value.1)) c.spells_one-in-Some-y.ensures

pub returns-in_default-from_u32 : goal.returns-in_default-from_u32
returns-in_default-from_u32 c =
    let e = c.in_default-from_u32.ensures.value.1 in
    letter _ c.args.text.now _ (omega (arith, ltb-false)) refl (other (get_or c.args.text.now 0 0) _ (search rules))

pub returns-in_default-from_u32-2 : goal.returns-in_default-from_u32-2
returns-in_default-from_u32-2 c =
    letter _ c.args.text.now _ (omega (arith, ltb-false)) refl (other (get_or c.args.text.now 0 0) _ (search rules))
