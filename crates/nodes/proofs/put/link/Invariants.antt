use Rattle.std.proofs.Common.{◌≡◌, ◌-◌, length, drop}
use Rattle.nodes.specs.Put.{linked, first_of}
use Rattle.nodes.proofs.put.link.Given as goal

abbrev pub invariant-loop-part : goal.invariant-loop-part
invariant-loop-part l = record {
  made : l.entries ≡ linked (drop (length l.parts - length l.yielded) l.parts) l.n l.initial.entries;
  following : l.next ≡ first_of (drop (length l.parts - length l.yielded) l.parts);
}
