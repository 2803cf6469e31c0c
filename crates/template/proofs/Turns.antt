-- One turn of a loop over a text, and one step of a fold.
use Rattle.std.proofs.Common.{◌≡◌, ℕ, ◌+◌, ◌<◌, List, [], ◌∷◌, ◌++◌, length, get_or, drop}
use Rattle.std.proofs.lemmas.List.{at_drop_more, append_assoc}
use Rattle.template.specs.declared.machine.State.{State}
use Rattle.template.specs.declared.machine.State.TheVariants.{Start}
use Rattle.template.specs.declared.machine.Step.{Step}
use Rattle.template.specs.Machine.{stepped, units, ends, emitted}

module _ (s : State) (xs : List ℕ) (i : ℕ) where
  pub ends_more : (z : Step) → i < length xs → z ≡ stepped s (get_or xs i 0) → ends s (drop i xs) ≡ ends z.next (drop (i + 1) xs)
  ends_more z h e = rw e (at_drop_more (ends s) xs i 0 h)

  pub emitted_more : (z : Step) → i < length xs → z ≡ stepped s (get_or xs i 0) →
      emitted s (drop i xs) ≡ units z.cooked ++ emitted z.next (drop (i + 1) xs)
  emitted_more z h e = rw e (at_drop_more (emitted s) xs i 0 h)

-- the front of a text is read, and leaves the machine in that state
abbrev pub Read : List ℕ → State → Type 0
Read front s = (more : List ℕ) → ends s more ≡ ends Start (front ++ more)

pub read_more : (front : List ℕ) (s next : State) (u : ℕ) → Read front s → next ≡ (stepped s u).next → Read (front ++ u ∷ []) next
read_more front s next u read is more = rw (is, append_assoc front (u ∷ []) more) (read (u ∷ more))
