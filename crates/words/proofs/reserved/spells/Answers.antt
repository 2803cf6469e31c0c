use Rattle.std.proofs.Common.{rules}
use borrow.Author.Tests.{tests}
use Rattle.std.proofs.lemmas.Bool.Decides.{same_from_decides}
use Rattle.std.proofs.lemmas.Iterator.{YieldsList-from_slice, YieldsList-from_zip, same_from_all}
use Rattle.std.proofs.lemmas.Slice.Eq.{bytes_eq-Decides}
use Rattle.words.proofs.reserved.spells.Goals as goal

pub returns-then-units-word : goal.returns-then-units-word
returns-then-units-word c =
    let xs = c.args.units.now in
    let ys = c.args.word.now in
    same_from_decides _ _ (same_from_all c.all.new.self _ _ xs ys c.all.ensures.ran (YieldsList-from_zip (YieldsList-from_slice xs cc) (YieldsList-from_slice ys cc)) c.if-units-word.true (λ x q k. search (rules, tests)) (λ x q k. search (rules, tests))) (bytes_eq-Decides xs ys)
