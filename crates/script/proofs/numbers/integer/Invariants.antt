use Rattle.std.proofs.Common.{◌≡◌, ◌-◌, ◌^◌, ◌<◌, drop}
use Rattle.script.specs.Numbers.{value_after, integer_to}
use Rattle.script.proofs.Capped.{capped}
use Rattle.script.proofs.numbers.integer.Given as goal

abbrev pub invariant-loop-digit : goal.invariant-loop-digit
invariant-loop-digit l = (l.value < 2 ^ 64) × (capped (value_after l.value (drop l.digit-index l.bytes)) ≡ integer_to (2 ^ 64 - 1) l.word)
