use lib.Bits.{bit_xor, xor_lt, xor_assoc, xor_zero_r}
use Rattle.std.proofs.Common.{lit<}
use Rattle.integers.proofs.Operators.{bitwise_is, associates, bitwise_neutral}
use Rattle.integers.proofs.bitwise.bitwise_xor.Goals as goal

pub returns : goal.returns
returns c = record {
  value =
      bitwise_is bit_xor (xor_lt 32) c.args.x c.args.y c.to_int_32.result c.to_int_32-2.result
      (record { sfits = c.to_int_32.type_inv }) (record { sfits = c.to_int_32-2.type_inv }) c.to_int_32.ensures.value c.to_int_32-2.ensures.value;
  associates = associates bit_xor (xor_lt 32) xor_assoc;
  neutral = bitwise_neutral bit_xor 0 (lit< tt) (λ a h. xor_zero_r a);
}
