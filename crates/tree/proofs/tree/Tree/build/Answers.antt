use Rattle.std.proofs.Common.{sym}
use Rattle.tree.proofs.tree.Tree.build.Goals as goal

pub returns-clause-refused : goal.returns-clause-refused
returns-clause-refused g c = rw (sym c.is_written-written.ensures, sym c.self.view_is) c.build.ensures.refused
