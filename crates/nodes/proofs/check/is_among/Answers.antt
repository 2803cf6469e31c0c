use Rattle.std.proofs.Common.{eqb, rules, tests, ◌∙◌}
use Rattle.std.proofs.lemmas.Iterator.{YieldsList-from_slice}
use Rattle.std.proofs.lemmas.Iterator.Search.{any_from_yields_List}
use Rattle.nodes.specs.declared.shape.Part.{Part}
use Rattle.nodes.proofs.Rows.{any_node}
use Rattle.nodes.proofs.check.is_among.Goals as goal

pub returns : goal.returns
returns c =
    any_from_yields_List (λ (p : Part). eqb c.args.n p.node) _ _ _ c.any.ensures.ran (YieldsList-from_slice c.args.parts.now cc) (λ x b q k. search (rules, tests))
    ∙ any_node c.args.n c.args.parts.now
