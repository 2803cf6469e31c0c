use Rattle.std.proofs.Common.{◌≤◌, drop}
use Rattle.template.proofs.Writes.{Written}
use Rattle.template.proofs.cooking.write_cooked.Given as goal

abbrev pub invariant-loop-unit : goal.invariant-loop-unit
invariant-loop-unit l = record { written : Written l.raw l.initial.out l.state (drop l.unit-index l.raw) l.end l.out; within : l.end ≤ l.room }
