use Rattle.std.proofs.Common.{ℕ, ◌*◌, ◌%◌, ◌^◌, ℤ, ap, ◌∙◌}
use Rattle.integers.specs.Words.{signed, to_int_32, number_of}
use Rattle.integers.specs.Bitwise.{bits}
use Rattle.integers.specs.Shifts.{left_shift}
use Rattle.integers.proofs.Words.{left_is}
use Rattle.integers.proofs.Operators.{left_neutral}
use Rattle.integers.proofs.shift.left_shift.Goals as goal

pub returns : goal.returns
unfolding left_shift
returns c = record {
  value =
      ap number_of (left_is c.to_int_32.result c.shift_count.result (record { sfits = c.to_int_32.type_inv }))
      ∙ ap (λ (z : ℤ). number_of (signed (bits z * 2 ^ c.shift_count.result % 2 ^ 32))) c.to_int_32.ensures.value
      ∙ ap (λ (k : ℕ). number_of (signed (bits (to_int_32 c.args.x) * 2 ^ k % 2 ^ 32))) c.shift_count.ensures.value;
  neutral = left_neutral;
}
