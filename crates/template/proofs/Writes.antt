-- A cooked text, written unit by unit.
use Rattle.std.proofs.Common.{◌≡◌, ℕ, ◌+◌, ◌<◌, ◌≤◌, List, [], ◌∷◌, ◌++◌, length, get_or, drop, set, refl, sym, ap, ◌∙◌, arith}
use Rattle.std.proofs.lemmas.List.{append-nil, append_assoc, length-append}
use Rattle.template.specs.declared.machine.State.{State}
use Rattle.template.specs.declared.machine.State.TheVariants.{Start}
use Rattle.template.specs.declared.machine.Step.{Step}
use Rattle.template.proofs.Lengths.{no_longer}
use Rattle.template.specs.Machine.{stepped, units, ends, emitted, put, over}
use Rattle.template.proofs.Turns.{ends_more, emitted_more}

over_push : (text old : List ℕ) (u : ℕ) → over (text ++ u ∷ []) old ≡ set (over text old) (length text) u
over_push [] [] u = refl
over_push [] (x ∷ old) u = refl
over_push (t ∷ text) [] u = refl
over_push (t ∷ text) (x ∷ old) u = ap (λ xs. t ∷ xs) (over_push text old u)

pub over_more : (text more old : List ℕ) → over (text ++ more) old ≡ put (over text old) (length text) more
over_more text [] old = ap (λ t. over t old) (append-nil text)
over_more text (u ∷ more) old =
    let step = over_more (text ++ u ∷ []) more old in
    ap (λ t. over t old) (sym (append_assoc text (u ∷ []) more)) ∙ rw (over_push, length-append) at step

pub over_fits : (text old : List ℕ) → length text ≤ length old → over text old ≡ text ++ drop (length text) old
over_fits [] old h = refl
over_fits (t ∷ text) [] h = absurd (omega arith)
over_fits (t ∷ text) (x ∷ old) h = ap (λ xs. t ∷ xs) (over_fits text old (omega arith))

-- what comes after a text that fills the slice is not written
over_full : (text more old : List ℕ) → length old ≤ length text → over (text ++ more) old ≡ over text old
over_full [] [] [] h = refl
over_full [] (u ∷ more) [] h = refl
over_full [] more (x ∷ old) h = absurd (omega arith)
over_full (t ∷ text) more [] h = refl
over_full (t ∷ text) more (x ∷ old) h = ap (λ xs. t ∷ xs) (over_full text more old (omega arith))

-- A loop over `raw` has come to the state s, and has the rest to read: what it wrote is the front of
-- the cooked text, over what the slice held before, and ends at `end`.
pub record Written (raw old : List ℕ) (s : State) (rest : List ℕ) (end : ℕ) (out : List ℕ) : Type 0 where
  pub front : List ℕ
  pub whole : front ++ emitted s rest ≡ emitted Start raw
  pub count : length front ≡ end
  pub wrote : out ≡ over front old
  pub on : ends s rest ≡ ends Start raw

module _ {raw old out : List ℕ} {s : State} {i end : ℕ} (w : Written raw old s (drop i raw) end out) where
  module _ (z : Step) (inside : i < length raw) (is : z ≡ stepped s (get_or raw i 0)) where
    pub fits : end + length (units z.cooked) ≤ length raw
    fits =
        let turn = ap length (emitted_more s raw i z inside is) in
        let parts = length-append w.front (emitted s (drop i raw)) in
        let more = length-append (units z.cooked) (emitted z.next (drop (i + 1) raw)) in
        omega (arith, w.count, ap length w.whole, no_longer raw)

    pub written_more : (next : List ℕ) → next ≡ put out end (units z.cooked) → Written raw old z.next (drop (i + 1) raw) (end + length (units z.cooked)) next
    written_more next is_put =
        let text = units z.cooked in
        let left = emitted z.next (drop (i + 1) raw) in
        record {
          front = w.front ++ text;
          whole = append_assoc w.front text left ∙ ap (λ t. w.front ++ t) (sym (emitted_more s raw i z inside is)) ∙ w.whole;
          count = length-append w.front text ∙ ap (λ n. n + length text) w.count;
          wrote = is_put ∙ sym (rw (w.count, ← w.wrote) at (over_more w.front text old));
          on = sym (ends_more s raw i z inside is) ∙ w.on;
        }

pub written_full : {raw old out rest : List ℕ} {s : State} {end : ℕ} → Written raw old s rest end out → length old ≤ end → out ≡ over (emitted Start raw) old
written_full {old = old} {rest = rest} {s = s} w h =
    w.wrote ∙ sym (over_full w.front (emitted s rest) old (omega (arith, w.count))) ∙ ap (λ t. over t old) w.whole
