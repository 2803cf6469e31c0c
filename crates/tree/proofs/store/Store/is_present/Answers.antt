use Rattle.std.proofs.Common.{arith}
use Rattle.tree.proofs.PresentNodes.{present_used}
use Rattle.tree.proofs.store.Store.is_present.Goals as goal

pub returns-then-n-len : goal.returns-then-n-len
returns-then-n-len c p = omega (arith, present_used c.args.self.now c.args.n p)
