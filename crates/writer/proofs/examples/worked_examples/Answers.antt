use Rattle.std.proofs.Common.{decimal, refl, arith}
use lib.Ieee.{of_int, fits, in_unsigned, to_unsigned, whole}
use Rattle.std.specs.Fmt.{digits}
use Rattle.writer.specs.Examples.{Worked, EveryInteger}
use Rattle.writer.specs.Literal.{literal}
use Rattle.writer.specs.Texts.{final_zeros, short_decimal}
use Rattle.writer.specs.Laws.{text_by}
use Rattle.writer.proofs.examples.worked_examples.Goals as goal

by_computing : Worked
unfolding of_int fits in_unsigned to_unsigned whole digits final_zeros literal
by_computing = record {
  nought = (refl, refl);
  one = (refl, refl);
  ten = (refl, refl);
  thousand = (refl, refl);
  many = (refl, refl);
  largest = (refl, refl);
  minus_nought = (refl, refl);
  half = (refl, refl);
  too_large = (refl, refl);
  no_number = (refl, refl);
  infinite = (refl, refl);
  reads = refl;
  leading_zero = refl;
  no_exponent = refl;
}

each : EveryInteger
each n h = (text_by decimal n _ (omega arith) refl, text_by short_decimal n _ (omega arith) refl)

pub returns : goal.returns
returns c = record { count = refl; worked = by_computing; every = each }
