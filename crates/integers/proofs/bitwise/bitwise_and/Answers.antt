use lib.Bits.{bit_and, and_lt}
use Rattle.std.proofs.Common.{lit<}
use Rattle.integers.proofs.Operators.{bitwise_is, associates, and_assoc, bitwise_neutral, and_ones}
use Rattle.integers.proofs.bitwise.bitwise_and.Goals as goal

pub returns : goal.returns
returns c = record {
  value =
      bitwise_is bit_and (and_lt 32) c.args.x c.args.y c.to_int_32.result c.to_int_32-2.result
      (record { sfits = c.to_int_32.type_inv }) (record { sfits = c.to_int_32-2.type_inv }) c.to_int_32.ensures.value c.to_int_32-2.ensures.value;
  associates = associates bit_and (and_lt 32) and_assoc;
  neutral = bitwise_neutral bit_and 4294967295 (lit< tt) and_ones;
}
