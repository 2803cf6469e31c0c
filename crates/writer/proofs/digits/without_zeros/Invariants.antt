use Rattle.std.proofs.Common.{◌≡◌, ◌+◌, ◌-◌, ◌*◌, ◌^◌}
use Rattle.writer.specs.Texts.{final_zeros}
use Rattle.writer.proofs.digits.without_zeros.Given as goal

abbrev pub invariant-loop-stem : goal.invariant-loop-stem
invariant-loop-stem l = (l.n ≡ l.stem * 10 ^ l.zeros) × (l.zeros + final_zeros (16 - l.zeros) l.stem ≡ final_zeros 16 l.n)

abbrev pub decreases-loop-stem : goal.decreases-loop-stem
decreases-loop-stem l = l.stem
