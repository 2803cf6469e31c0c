use Rattle.std.proofs.Common.{ℕ, ◌%◌, ap, arith}
use Rattle.integers.specs.Shifts.{shift_count}
use Rattle.integers.proofs.shift.shift_count.Goals as goal

pub returns : goal.returns
unfolding shift_count
returns c = record { value = ap (λ (n : ℕ). n % 32) c.to_uint_32.ensures.value; bound = omega arith }
