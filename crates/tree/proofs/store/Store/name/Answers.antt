use Rattle.std.proofs.Common.{◌≡◌, true, length, Some, sym, ap, ◌∙◌, arith}
use lib.ListN.{length-map}
use Rattle.std.specs.Result.{result_ok}
use Rattle.std.proofs.lemmas.Bool.{and_from}
use Rattle.names.specs.Table.{texts, classes, listed, text_of, class_of}
use Rattle.words.specs.Words as Words
use Rattle.tree.specs.Calls.{class_fits, name_fits, Listable, Named}
use Rattle.tree.specs.State.{Keeps}
use Rattle.tree.specs.Of.{keeps, state_of}
use Rattle.tree.proofs.Naming.{with_names, named, not_found, set_last}
use Rattle.tree.proofs.store.Store.name.Goals as goal
use Rattle.tree.proofs.store.Store.name.Goals.{After-classify}

listed_once : (c : goal.After-classify) → Keeps (with_names (state_of c.args.self.now) (texts c.classify.new.self) (classes c.classify.new.self))
    × Named (state_of c.args.self.now) c.args.text.now c.args.class c.in_ok-i.i (with_names (state_of c.args.self.now) (texts c.classify.new.self) (classes c.classify.new.self))
listed_once c =
    let self = c.args.self.now in
    let added : c.add.result ≡ Some c.in_ok-i.i = c.ok_or.ensures.ok_part ∙ ap result_ok c.in_ok-i.was in
    let a = rw added at c.add.ensures in
    let long : length (classes self.names) ≡ c.in_ok-i.i = length-map (listed self.names) class_of ∙ sym (length-map (listed self.names) text_of) ∙ sym a.0 in
    let fits : name_fits (state_of self) c.args.text.now c.args.class ≡ true = and_from (Words.name c.args.text.now) (class_fits (state_of self) c.args.class) (sym c.is_name.ensures.decides ∙ c.if-not-is_name.false) (sym c.class_fits.ensures ∙ c.if-not-class_fits.false) in
    let new : Listable (state_of self) c.args.text.now = (not_found (texts self.names) c.args.text.now c.find.result c.is_some.result c.find.ensures c.is_some.ensures c.if-is_some.false, omega (arith, a.0, a.1)) in
    named (state_of self) c.args.text.now c.args.class c.in_ok-i.i (texts c.classify.new.self) (classes c.classify.new.self) (keeps self)
    (c.in_ok-check_unrooted.ensures.ok, fits, new)
    a.0
    (c.classify.ensures.texts ∙ a.3)
    (c.classify.ensures.classes ∙ rw a.4 (set_last (classes self.names) _ c.args.class c.in_ok-i.i long))

pub invariant_of-self-2 : goal.invariant_of-self-2
invariant_of-self-2 c =
    let self = c.args.self.now in
    let w = (listed_once (goal.at.invariant_of-self-2 c).After-classify).0 in
    record { within = self.within; limited = self.limited; reserved = self.reserved; roomy = self.roomy; taken = self.taken; sound = w.sound; held = w.held; single = w.single; fitting = w.fitting; levelled = w.levelled; rooted = w.rooted }

pub returns-clause-ok : goal.returns-clause-ok
returns-clause-ok c = (listed_once (goal.at.returns-clause-ok c).After-classify).1
