use Rattle.std.proofs.Common.{not, vec_items, rules, tests, ◌∙◌}
use Rattle.std.proofs.lemmas.Iterator.{YieldsList-from_slice}
use Rattle.std.proofs.lemmas.Iterator.Search.{all_from_yields_List}
use Rattle.syntax.specs.Expr.{marked}
use Rattle.nodes.specs.declared.shape.Part.{Part}
use Rattle.nodes.specs.Meaning.{expr}
use Rattle.tree.specs.Of.{texts_of}
use Rattle.tree.proofs.Marking.{all_unmarked}
use Rattle.tree.proofs.store.Store.are_unmarked.Goals as goal

pub returns : goal.returns
returns c =
    let t = texts_of c.args.self.now in
    let es = vec_items c.args.self.now.entries in
    all_from_yields_List (λ (p : Part). not (marked (expr t es p.node))) _ _ _ c.all.ensures.ran (YieldsList-from_slice c.args.parts.now cc) (λ x b q k. search (rules, tests))
    ∙ all_unmarked t es c.args.parts.now
