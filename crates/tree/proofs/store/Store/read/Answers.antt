use Rattle.tree.proofs.PresentNodes.{present_used}
use Rattle.tree.proofs.PresentStrings.{a_string, no_string}
use Rattle.tree.proofs.store.Store.read.Goals as goal

pub entry-requires : goal.entry-requires
entry-requires c = present_used c.args.self.now c.args.n c.if-not-is_present.ensures

pub returns-in-String-clause-units : goal.returns-in-String-clause-units
returns-in-String-clause-units c =
    let is = a_string c.args.self.now c.args.n c.if-not-is_present.ensures c.entry.result c.entry.ensures c.in-String.span c.in-String.is in
    cc is

pub returns-in_default-clause-refused : goal.returns-in_default-clause-refused
returns-in_default-clause-refused c = no_string c.args.self.now c.args.n c.if-not-is_present.ensures c.entry.result c.entry.ensures c.in_default.not-String
