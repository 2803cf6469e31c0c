use Rattle.std.proofs.Common.{vec_items, arith}
use Rattle.tree.specs.Of.{texts_of}
use Rattle.tree.proofs.Marking.{link_below, marked_here, marked_below, no_link}
use Rattle.tree.proofs.store.Store.+is_marked.Goals as goal

pub is_marked-requires : goal.is_marked-requires
is_marked-requires t c =
    let self = c.args.self.now in
    let w = link_below (texts_of self) (vec_items self.entries) _ self.sound c.args.n c.requires c.entry.result c.entry.ensures c.link_of.result c.link_of.ensures c.in-Some.link c.in-Some.is in
    (omega (arith, w.1, c.decreases), w.0)

pub returns-then-link : goal.returns-then-link
returns-then-link t c =
    let self = c.args.self.now in
    marked_here (texts_of self) (vec_items self.entries) _ self.sound c.args.n c.requires c.entry.result c.entry.ensures c.link_of.result c.link_of.ensures c.in-Some.link c.in-Some.is c.if-link.true

pub returns-else-link : goal.returns-else-link
returns-else-link t c =
    let self = c.args.self.now in
    marked_below (texts_of self) (vec_items self.entries) _ self.sound c.args.n c.requires c.entry.result c.entry.ensures c.link_of.result c.link_of.ensures c.in-Some.link c.in-Some.is c.if-link.false c.is_marked.result c.is_marked.ensures

pub returns-in-None : goal.returns-in-None
returns-in-None t c =
    let self = c.args.self.now in
    no_link (texts_of self) (vec_items self.entries) _ self.sound c.args.n c.requires c.entry.result c.entry.ensures c.link_of.result c.link_of.ensures c.in-None.is
