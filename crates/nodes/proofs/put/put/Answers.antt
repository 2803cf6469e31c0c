use Rattle.std.proofs.Common.{refl}
use Rattle.nodes.specs.Put.{with_node}
use Rattle.nodes.proofs.put.put.Goals as goal

pub returns : goal.returns
unfolding with_node
returns c = rw (c.link.ensures, c.new_entry.ensures) refl
