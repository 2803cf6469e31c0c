use Rattle.std.proofs.Common.{rules, tests}
use Rattle.std.proofs.lemmas.Iterator.{YieldsList-from_slice, cases_from_all}
use Rattle.tree.specs.Calls.{Not, RawPart}
use Rattle.tree.specs.Of.{state_of}
use Rattle.tree.proofs.Admitting.{decides_all}
use Rattle.tree.proofs.store.Store.are_raw.Goals as goal

pub returns : goal.returns
returns c =
    let a = state_of c.args.self.now in
    decides_all (λ p. RawPart a p.after) c.args.parts.now c.all.result
    (cases_from_all _ _ _ (λ p. RawPart a p.after) (λ p. Not (RawPart a p.after)) c.all.ensures.ran (YieldsList-from_slice c.args.parts.now cc) (λ x q k. search (rules, tests)) (λ x q k. search (rules, tests)))
