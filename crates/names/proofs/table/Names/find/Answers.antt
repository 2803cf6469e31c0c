use Rattle.std.proofs.Common.{◌≡◌, ◌≢◌, rules}
use borrow.Author.Tests.{tests}
use Rattle.std.proofs.lemmas.Iterator.{YieldsList-from_slice, IsFirst-from_position}
use Rattle.names.specs.Table.{text_of, listed}
use Rattle.names.proofs.Finds.{first_at}
use Rattle.names.proofs.table.Names.find.Goals as goal

pub returns : goal.returns
returns c =
    let text = c.args.text.now in
    first_at (listed c.args.self.now) text _
    (IsFirst-from_position c.position.new.self _ _ (λ n. text_of n ≡ text) (λ n. text_of n ≢ text) c.position.ensures.ran (YieldsList-from_slice (listed c.args.self.now) cc) (λ x q k. search (rules, tests)) (λ x q k. search (rules, tests)))
