use Rattle.std.proofs.Common.{ap, arith}
use Rattle.nodes.specs.declared.kind.Entry.{Entry}
use Rattle.tree.proofs.PresentNodes.{climb, apart}
use Rattle.tree.proofs.store.Store.is_below.Goals as goal

pub loop-at-smaller : goal.loop-at-smaller
loop-at-smaller c =
    let h = climb c.args.self.now c.args.top c.args.n c.loop-at.at c.requires.top c.loop-at.invariant c.loop-at-test.true c.entry.result c.entry.ensures c.in-Some.parent c.in-Some.is in
    omega (arith, ap (λ (x : Entry). x.height) c.entry.ensures)

pub loop-at-preserved : goal.loop-at-preserved
loop-at-preserved c = (climb c.args.self.now c.args.top c.args.n c.loop-at.at c.requires.top c.loop-at.invariant c.loop-at-test.true c.entry.result c.entry.ensures c.in-Some.parent c.in-Some.is).0

pub returns-in-None : goal.returns-in-None
returns-in-None c = apart c.args.self.now c.args.top c.args.n c.loop-at.at c.requires.top c.loop-at.invariant c.loop-at-test.true c.entry.result c.entry.ensures c.in-None.is
