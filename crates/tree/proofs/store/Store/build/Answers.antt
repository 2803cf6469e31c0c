use Rattle.std.proofs.Common.{◌≡◌, vec_items, arith}
use Rattle.tree.specs.Calls.{Built}
use Rattle.tree.specs.State.{Keeps, used}
use Rattle.tree.specs.Of.{keeps, state_of}
use Rattle.tree.proofs.Admitting.{free_below}
use Rattle.tree.proofs.Adding.{with_entries, added}
use Rattle.tree.proofs.store.Store.build.Goals as goal
use Rattle.tree.proofs.store.Store.build.Goals.{After-add}

pub add-requires-clause-parts : goal.add-requires-clause-parts
add-requires-clause-parts c k d lt =
    let w = free_below (vec_items c.args.self.now.entries) c.args.parts.now c.in_ok-kind.ensures.buildable.1.0 k d lt in
    omega arith

-- what the tree with the new node keeps, and what was built
built_once : (c : After-add) → Keeps (with_entries (state_of c.args.self.now) (vec_items c.add.new.entries)) × Built c.args.written (state_of c.args.self.now) c.args.shape c.args.parts.now (used (state_of c.args.self.now)) (with_entries (state_of c.args.self.now) (vec_items c.add.new.entries))
built_once c =
    let a = c.in_ok-kind.ensures in
    added c.args.written (state_of c.args.self.now) c.args.shape c.args.parts.now (keeps c.args.self.now) a.buildable (vec_items c.add.new.entries) c.in_ok-kind.kind c.in_ok-kind.below c.add.ensures.items a.kind a.height

pub invariant_of-self : goal.invariant_of-self
invariant_of-self c =
    let self = c.args.self.now in
    let w = (built_once c).0 in
    record {
      within = let ok = c.in_ok-kind.ensures.buildable in omega (arith, ok.5);
      limited = self.limited;
      reserved = omega arith;
      roomy = self.roomy;
      taken = self.taken;
      sound = w.sound;
      held = w.held;
      single = w.single;
      fitting = w.fitting;
      levelled = w.levelled;
      rooted = w.rooted;
    }

pub returns-clause-ok : goal.returns-clause-ok
returns-clause-ok c = let number : c.add.result ≡ used (state_of c.args.self.now) = omega arith in rw number (built_once (goal.at.returns-clause-ok c).After-add).1
