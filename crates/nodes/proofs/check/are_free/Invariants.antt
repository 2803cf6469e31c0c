use Rattle.std.proofs.Common.{◌≡◌, drop}
use Rattle.nodes.specs.Made.{free}
use Rattle.nodes.proofs.check.are_free.Given as goal

abbrev pub invariant-loop-i : goal.invariant-loop-i
invariant-loop-i l = free l.entries (drop l.i l.parts) ≡ free l.entries l.parts
