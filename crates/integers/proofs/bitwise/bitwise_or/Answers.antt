use lib.Bits.{bit_or, or_lt, or_zero_r}
use Rattle.std.proofs.Common.{lit<}
use Rattle.integers.proofs.Operators.{bitwise_is, associates, or_assoc, bitwise_neutral}
use Rattle.integers.proofs.bitwise.bitwise_or.Goals as goal

pub returns : goal.returns
returns c = record {
  value =
      bitwise_is bit_or (or_lt 32) c.args.x c.args.y c.to_int_32.result c.to_int_32-2.result
      (record { sfits = c.to_int_32.type_inv }) (record { sfits = c.to_int_32-2.type_inv }) c.to_int_32.ensures.value c.to_int_32-2.ensures.value;
  associates = associates bit_or (or_lt 32) or_assoc;
  neutral = bitwise_neutral bit_or 0 (lit< tt) (λ a h. or_zero_r a);
}
