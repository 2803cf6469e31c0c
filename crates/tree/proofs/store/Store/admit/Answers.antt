use Rattle.std.proofs.Common.{◌≡◌, true, List, Some, None, vec_items, sym, ap, ◌∙◌, arith}
use Rattle.std.specs.Result.{result_ok}
use Rattle.nodes.specs.declared.kind.Entry.{Entry}
use Rattle.nodes.specs.Made.{free, marks_fit}
use Rattle.nodes.specs.Put.{tallest}
use Rattle.tree.specs.Calls.{Found, Good, parts}
use Rattle.tree.specs.Of.{state_of, texts_of}
use Rattle.tree.proofs.Admitting.{free_below, too_deep, shallow}
use Rattle.tree.proofs.store.Store.admit.Goals as goal
use Rattle.tree.proofs.store.Store.admit.Goals.{In_ok-kind, After-tallest-below}

-- what has passed when the marks are looked at
record Passed (c : In_ok-kind) : Type 0 where
  unrooted : c.args.self.now.root ≡ None
  found : Found (state_of c.args.self.now) c.args.shape c.args.parts.now
  good : Good c.args.written (state_of c.args.self.now) c.args.shape c.args.parts.now

passed : (c : In_ok-kind) → Passed c
passed c =
    let given : c.good_kind.result ≡ Some c.in_ok-kind.kind = c.ok_or.ensures.ok_part ∙ ap result_ok c.in_ok-kind.was in
    record {
      unrooted = c.in_ok-check_unrooted.ensures.ok;
      found = (
        ap (λ (es : List Entry). free es c.args.parts.now) (sym c.deref.ensures.value) ∙ sym c.are_free.ensures ∙ c.if-not-are_free.false,
        sym c.name_listed.ensures ∙ c.if-not-name_listed.false,
      );
      good = (rw given at c.good_kind.ensures).good;
    }

pub marks_fit-requires : goal.marks_fit-requires
marks_fit-requires c = free_below (vec_items c.args.self.now.entries) c.args.parts.now (passed c).found.0

pub tallest-below-requires : goal.tallest-below-requires
tallest-below-requires c = λ k d lt.
    let w = free_below (vec_items c.args.self.now.entries) c.args.parts.now (passed (goal.at.tallest-below-requires c).In_ok-kind).found.0 k d lt in omega arith

-- and when the height is known
fits : (c : goal.After-tallest-below) → marks_fit c.args.shape (parts (state_of c.args.self.now) c.args.parts.now) ≡ true
fits c = sym c.marks_fit.ensures ∙ c.if-not-marks_fit.false

height : (c : goal.After-tallest-below) → c.tallest-below.result ≡ tallest (vec_items c.args.self.now.entries) c.args.parts.now
height c = c.tallest-below.ensures ∙ ap (λ (es : List Entry). tallest es c.args.parts.now) c.deref-2.ensures.value

pub returns-then-below-clause-refused : goal.returns-then-below-clause-refused
returns-then-below-clause-refused c =
    let self = c.args.self.now in
    let w = passed (goal.at.returns-then-below-clause-refused c).In_ok-kind in
    let d = (goal.at.returns-then-below-clause-refused c).After-tallest-below in
    (w.unrooted, w.found, w.good, fits d, too_deep (texts_of self) (vec_items self.entries) c.args.parts.now self.root self.levelled w.unrooted w.found.0 (let h = height d in omega arith))

pub returns-then-len-self-clause-refused : goal.returns-then-len-self-clause-refused
returns-then-len-self-clause-refused c =
    let self = c.args.self.now in
    let w = passed (goal.at.returns-then-len-self-clause-refused c).In_ok-kind in
    let d = (goal.at.returns-then-len-self-clause-refused c).After-tallest-below in
    (w.unrooted, w.found, w.good, fits d, shallow (texts_of self) (vec_items self.entries) c.args.parts.now self.root self.levelled w.unrooted w.found.0 (let h = height d in omega arith), omega arith)

pub returns-clause-buildable : goal.returns-clause-buildable
returns-clause-buildable c =
    let self = c.args.self.now in
    let w = passed (goal.at.returns-clause-buildable c).In_ok-kind in
    let d = (goal.at.returns-clause-buildable c).After-tallest-below in
    (w.unrooted, w.found, w.good, fits d, shallow (texts_of self) (vec_items self.entries) c.args.parts.now self.root self.levelled w.unrooted w.found.0 (let h = height d in omega arith), omega arith)
