use Rattle.std.proofs.Common.{unwrap_or, rules, ap, ◌∙◌}
use Rattle.std.proofs.lemmas.Iterator.{YieldsList-from_slice, YieldsList-from_map}
use Rattle.std.proofs.lemmas.Iterator.Consumers.{reduce_from_yields_List}
use Rattle.std.proofs.lemmas.List.Folds.{max_of_map}
use Rattle.nodes.specs.declared.shape.Part.{Part}
use Rattle.nodes.specs.Meaning.{at}
use Rattle.nodes.proofs.Rows.{fold-tallest}
use Rattle.nodes.proofs.check.tallest.Goals as goal

pub returns : goal.returns
returns c =
    let es = c.args.entries.now in
    let ps = c.args.parts.now in
    let height = λ (p : Part). (at es p.node).height in
    let most = reduce_from_yields_List _ c.map.result c.max.result c.max.ensures.ran (YieldsList-from_map _ height (YieldsList-from_slice ps cc) c.map.ensures.closure (λ x r q k. search rules)) in
    c.unwrap_or.ensures ∙ ap (λ o. unwrap_or o 0) most ∙ max_of_map height ps ∙ fold-tallest es ps
