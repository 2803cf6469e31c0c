use Rattle.std.proofs.Common.{◌≡◌, length, drop, sym, refl, ap, ◌∙◌, take_at}
use Rattle.nodes.specs.Put.{with_added}
use Rattle.nodes.proofs.Building.{length-linked}
use Rattle.nodes.proofs.put.add.Goals as goal

pub returns-clause-items : goal.returns-clause-items
unfolding with_added
returns-clause-items c =
    let old = c.args.entries.now in
    let last = c.link.new.entries in
    let long : length last ≡ old.len = ap length c.link.ensures ∙ length-linked c.args.parts.now c.len-n.result c.deref_mut.result.now ∙ c.deref_mut.ensures.len in
    let back = take_at last (drop (length last) old.items) old.len long in
    let number : c.len-n.result ≡ length old.items = c.len-n.ensures ∙ sym c.deref_mut.ensures.len ∙ ap length c.deref_mut.ensures.value in
    let pushed = rw c.unwrap.ensures at c.push.ensures.items in
    pushed ∙ rw (back, c.link.ensures, number, c.deref_mut.ensures.value, c.new_entry.ensures) refl
