use Rattle.std.proofs.Common.{refl, ap, ◌∙◌, w32, to_z}
use lib.Ieee.{of_int, round}
use Rattle.std.proofs.lemmas.Int.{to_z-of_z}
use Rattle.integers.specs.Words.{to_uint_32, to_int_32}
use Rattle.integers.specs.Bitwise.{number_bitwise_op, bitwise_not}
use Rattle.integers.specs.Shifts.{shift_count, left_shift, signed_right_shift, unsigned_right_shift}
use Rattle.integers.specs.Digits.{tens, digit_count}
use Rattle.integers.specs.Examples.{Examples}
use Rattle.integers.proofs.Words.{signed_is, low_lt}
use Rattle.integers.proofs.word.to_int_32.Goals as goal

worked : Examples
unfolding Examples to_uint_32 to_int_32 number_bitwise_op bitwise_not shift_count left_shift signed_right_shift unsigned_right_shift tens digit_count of_int round
worked = (refl, refl, refl, refl, refl, refl, refl, refl, refl, refl, refl, refl, refl, refl, refl, refl, refl, refl, refl, refl, refl)

pub returns : goal.returns
unfolding to_int_32
returns c = record {
  value = to_z-of_z w32 c.cast_signed.result (record { sfits = c.cast_signed.type_inv }) ∙ c.cast_signed.ensures ∙ ap (to_z w32) c.to_uint_32.ensures.value ∙ signed_is (to_uint_32 c.args.x) (low_lt c.args.x);
  examples = worked;
}
