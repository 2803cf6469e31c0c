use Rattle.std.proofs.Common.{◌-◌, vec_items}
use Rattle.nodes.specs.Meaning.{at}
use Rattle.tree.proofs.PresentNodes.{Climbed}
use Rattle.tree.proofs.store.Store.is_below.Given as goal

abbrev pub invariant-loop-at : goal.invariant-loop-at
invariant-loop-at l = Climbed (vec_items l.self.entries) l.top l.n l.at

-- a parent is higher, and heights have 16 bits
abbrev pub decreases-loop-at : goal.decreases-loop-at
decreases-loop-at l = 65536 - (at (vec_items l.self.entries) l.at).height
