use Rattle.std.proofs.Common.{vec_items}
use Rattle.nodes.specs.Meaning.{at}
use Rattle.tree.proofs.store.Store.+is_marked.Given as goal

abbrev pub decreases-is_marked : goal.decreases-is_marked
decreases-is_marked l = (at (vec_items l.self.now.entries) l.n).height
