use Rattle.std.proofs.Common.{ℤ, ap, ◌∙◌}
use Rattle.integers.specs.Words.{to_int_32, number_of}
use Rattle.integers.specs.Shifts.{extended, signed_right_shift}
use Rattle.integers.proofs.Words.{right_is}
use Rattle.integers.proofs.Operators.{right_neutral}
use Rattle.integers.proofs.shift.signed_right_shift.Goals as goal

pub returns : goal.returns
unfolding signed_right_shift
returns c = record {
  value =
      ap number_of (right_is c.to_int_32.result c.shift_count.result (record { sfits = c.to_int_32.type_inv })
      ∙ ap (λ (z : ℤ). extended z c.shift_count.result) c.to_int_32.ensures.value ∙ ap (extended (to_int_32 c.args.x)) c.shift_count.ensures.value);
  neutral = right_neutral;
}
