-- The state that a store holds.
use Rattle.std.proofs.Common.{subst}
use Rattle.std.specs.Prelude.{◌≤◌, vec_items}
use Rattle.names.specs.Table.{texts, classes}
use Rattle.nodes.specs.Meaning.{Texts}
use Rattle.tree.specs.declared.store.Store.{Store}
use Rattle.tree.specs.State.{State, Keeps, Kept, Whole}

abbrev pub texts_of : Store → Texts
texts_of s = record { names = texts s.names; source = vec_items s.source; folded = vec_items s.folded }

abbrev pub state_of : Store → State
state_of s = record { entries = vec_items s.entries; capacity = s.capacity; texts = texts_of s; classes = classes s.names; root = s.root; room = s.room }

pub keeps : (s : Store) → Keeps (state_of s)
keeps s = record { sound = s.sound; held = s.held; single = s.single; fitting = s.fitting; levelled = s.levelled; rooted = s.rooted }

pub kept : (s : Store) → Kept (state_of s)
kept s =
    record {
      within = subst (λ n. n ≤ s.capacity) s.entries.ok.0 s.within;
      limited = s.limited;
      roomy = subst (λ n. n ≤ s.room) s.folded.ok.0 s.roomy;
      nodes = keeps s;
    }

abbrev pub whole : Store → Whole
whole s = record { state = state_of s; kept = kept s }
