-- The machine reads every raw part, and cooks it to its cooked text.
use Rattle.std.proofs.Common.{◌≡◌, ℕ, suc, ◌+◌, ◌-◌, ◌*◌, ◌/◌, ◌%◌, Bool, true, false, eqb, leb, ltb, List, [], ◌∷◌, ◌++◌, Some, refl, ap, ◌∙◌, subst, ⊎_elim, add-zero, zero-add, arith}
use Rattle.std.proofs.lemmas.Bool.{cases_Bool, both_ways, eqb-true}
use Rattle.std.proofs.lemmas.Bool.Decides.{nat_tests}
use Rattle.template.specs.declared.machine.State.{State}
use Rattle.template.specs.declared.machine.State.TheVariants.{Start, Dollar, Backslash, Zero, Unicode, Digits, Open, Braced, Lead, Bad}
use Rattle.template.specs.declared.machine.Cooked.TheVariants.{Nothing, One, Two}
use Rattle.template.specs.declared.machine.Step.{Step}
use Rattle.std.specs.Char.Escape.{encode_utf16}
use Rattle.units.specs.CodePoints.{is_lead, is_trail}
use Rattle.template.specs.Raw.{begins, is_digit, is_line, hex_value, Hex, Raw}
use Rattle.template.specs.Raw.Hex.{no_digit, one_more}
use Rattle.template.specs.Raw.Raw.{end, dollar, plain, pair, continuation, single, non_escape, non_escape_pair, null, hex, unicode, code_point_escape}
use Rattle.template.specs.Machine.{to, character, may_end, escape, code_point, stepped, units, ends, emitted}
use Rattle.template.proofs.Digit.{hex_other, two_below, four_below, leb_shorter, leb_below}

-- from that state on the machine reads the text to an end, and cooks it to c
pub record Runs (s : State) (us c : List ℕ) : Type 0 where
  pub ended : ends s us ≡ true
  pub gave : emitted s us ≡ c

follow : (s : State) (u : ℕ) {us c : List ℕ} (z : Step) → stepped s u ≡ z → Runs z.next us c → Runs s (u ∷ us) (units z.cooked ++ c)
follow s u {us} {c} z e =
    let P : Step → Type 0 = λ y. Runs y.next us c → Runs s (u ∷ us) (units y.cooked ++ c) in
    subst P e (λ r. record { ended = r.ended; gave = ap (λ t. units (stepped s u).cooked ++ t) r.gave })

bad_ends : (us : List ℕ) → ends Bad us ≡ false
bad_ends [] = refl
bad_ends (u ∷ us) = bad_ends us

-- a lookahead that does not come
after : (s : State) (test : ℕ → Bool) → may_end s ≡ true → ((u : ℕ) → test u ≡ false → stepped s u ≡ character u) →
    (us : List ℕ) {c : List ℕ} → begins test us ≡ false → Runs Start us c → Runs s us c
after s test last step [] h r = record { ended = last; gave = r.gave }
after s test last step (u ∷ us) h r = record { ended = rw (step u h) r.ended; gave = rw (step u h) r.gave }

after_dollar : (us : List ℕ) {c : List ℕ} → begins (λ u. eqb u 0x7B) us ≡ false → Runs Start us c → Runs Dollar us c
after_dollar = after Dollar _ refl (λ u h. rw h)

after_zero : (us : List ℕ) {c : List ℕ} → begins is_digit us ≡ false → Runs Start us c → Runs Zero us c
after_zero = after Zero _ refl (λ u h. rw h)

lead_step : (u : ℕ) → is_lead u ≡ true → character u ≡ to Lead (One u)
lead_step u h = grind (arith, nat_tests)

lead_escape : (u : ℕ) → is_lead u ≡ true → escape u ≡ to Lead (One u)
lead_escape u h = grind (arith, nat_tests)

line_escape : (u : ℕ) → is_line u ≡ true → escape u ≡ to Start Nothing
line_escape u h = grind (arith, nat_tests)

-- the end of an escape by number
finish : (s : State) (u v : ℕ) {r c : List ℕ} → stepped s u ≡ code_point v → leb v 0x10FFFF ≡ true → Runs Start r c → Runs s (u ∷ r) (encode_utf16 v ++ c)
finish s u v {r} {c} at h run = go (ltb v 0x10000) refl
  where
    go : (b : Bool) → ltb v 0x10000 ≡ b → Runs s (u ∷ r) (encode_utf16 v ++ c)
    go true e = rw e (follow s u (to Start (One v)) (at ∙ rw e) run)
    go false e = rw e (follow s u (to Start (Two (0xD800 + (v - 0x10000) / 0x400) (0xDC00 + (v - 0x10000) % 0x400))) (at ∙ rw (e, h)) run)

-- one more digit, with n after it still to come
next_digit : (n v u m : ℕ) → leb v 0x10FFFF ≡ true → hex_value u ≡ Some m → stepped (Digits (suc n) v) u ≡ to (Digits n (v * 16 + m)) Nothing
next_digit n v u m h e = grind (arith, nat_tests)

-- k digits, with n after the next one still to come
digits : {k v : ℕ} {s r c : List ℕ} → Hex k s v r → leb v 0x10FFFF ≡ true → (n : ℕ) → Runs (Digits n v) r c → Runs (Digits (n + k) 0) s c
digits no_digit h n run = rw add-zero run
digits {s = s} {c = c} (one_more {n = k} {v = v} {u = u} {m = m} d e) h n run =
    let low = leb_shorter v m _ h in
    let count : suc n + k ≡ n + suc k = omega arith in
    subst (λ i. Runs (Digits i 0) s c) count
    (digits d low (suc n) (follow (Digits (suc n) v) u (to (Digits n (v * 16 + m)) Nothing) (next_digit n v u m low e) run))

all_digits : {k v : ℕ} {s r c : List ℕ} → Hex (suc k) s v r → ltb v 0x10000 ≡ true → Runs Start r c → Runs (Digits k 0) s (v ∷ c)
all_digits {k = k} {s = s} {c = c} (one_more {v = v} {u = u} {m = m} d e) h run =
    let whole = leb_below _ h in
    let low = leb_shorter v m _ whole in
    let w = v * 16 + m in
    subst (λ i. Runs (Digits i 0) s (w ∷ c)) (zero-add k) (digits d low 0 (follow (Digits 0 v) u (to Start (One w)) (rw (e, low, h)) run))

after_u : (us : List ℕ) {c : List ℕ} → Runs (Digits 3 0) us c → Runs Unicode us c
after_u [] r = record { ended = r.ended; gave = r.gave }
after_u (u ∷ us) {c} r = ⊎_elim brace other (cases_Bool (eqb u 0x7B))
  where
    brace : eqb u 0x7B ≡ true → Runs Unicode (u ∷ us) c
    brace e =
        let is = eqb-true u 0x7B e in
        let no : ends (Digits 3 0) (0x7B ∷ us) ≡ true = subst (λ w. ends (Digits 3 0) (w ∷ us) ≡ true) is r.ended in
        absurd (both_ways _ (bad_ends us) no)

    other : eqb u 0x7B ≡ false → Runs Unicode (u ∷ us) c
    other e = record { ended = rw e r.ended; gave = rw e r.gave }

braces : {k v : ℕ} {s r c : List ℕ} → Hex (suc k) s v r → leb v 0x10FFFF ≡ true → Runs (Braced v) r c → Runs Open s c
braces (one_more {u = u} {m = m} no_digit e) h run = follow Open u (to (Braced (0 * 16 + m)) Nothing) (rw e) run
braces (one_more {v = v} {u = u} {m = m} (one_more d f) e) h run =
    let low = leb_shorter v m _ h in
    let other = hex_other u 0x7D m refl e in
    braces (one_more d f) low (follow (Braced v) u (to (Braced (v * 16 + m)) Nothing) (rw (other, e, low)) run)

backslash : (u : ℕ) {us c : List ℕ} (z : Step) → escape u ≡ z → Runs z.next us c → Runs Start (0x5C ∷ u ∷ us) (units z.cooked ++ c)
backslash u z e run = follow Start 0x5C (to Backslash Nothing) refl (follow Backslash u z e run)

trail : (v : ℕ) {us c : List ℕ} → is_trail v ≡ true → Runs Start us c → Runs Lead (v ∷ us) (v ∷ c)
trail v h run = follow Lead v (to Start (One v)) (rw h) run

pub complete : {s c : List ℕ} → Raw s c → Runs Start s c
complete end = record { ended = refl; gave = refl }
complete (dollar h r) = follow Start 0x24 (to Dollar (One 0x24)) refl (after_dollar _ h (complete r))
complete (plain {u = u} h r) = follow Start u (to Start (One u)) (rw h) (complete r)
complete (pair {u = u} {v = v} h k r) = follow Start u (to Lead (One u)) (lead_step u h) (trail v k (complete r))
complete (continuation {u = u} h r) = backslash u (to Start Nothing) (line_escape u h) (complete r)
complete (single {u = u} {v = v} h r) = backslash u (to Start (One v)) (rw h) (complete r)
complete (non_escape {u = u} h r) = backslash u (to Start (One u)) (rw h) (complete r)
complete (non_escape_pair {u = u} {v = v} h k r) = backslash u (to Lead (One u)) (lead_escape u h) (trail v k (complete r))
complete (null h r) = backslash 0x30 (to Zero (One 0)) refl (after_zero _ h (complete r))
complete (hex d r) = backslash 0x78 (to (Digits 1 0) Nothing) refl (all_digits d (two_below d) (complete r))
complete (unicode d r) = backslash 0x75 (to Unicode Nothing) refl (after_u _ (all_digits d (four_below d) (complete r)))
complete (code_point_escape {v = v} d h r) =
    backslash 0x75 (to Unicode Nothing) refl
    (follow Unicode 0x7B (to Open Nothing) refl (braces d h (finish (Braced v) 0x7D v refl h (complete r))))
