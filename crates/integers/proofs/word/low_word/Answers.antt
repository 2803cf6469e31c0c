use Rattle.std.proofs.Common.{◌≡◌, ℕ, ◌/◌, ◌%◌, ◌^◌, leb, refl, ap, ◌∙◌, arith}
use lib.Ieee.{binary64, of_bits, of_fields}
use Rattle.integers.specs.Words.{size_modulo}
use Rattle.integers.proofs.Fields.{below, down_by, up_by, above}
use Rattle.integers.proofs.word.low_word.Goals as goal

by_fields : (b : ℕ) → of_fields binary64 (leb (2 ^ 63) b) (b % 2 ^ 63 / 2 ^ 52) (b % 2 ^ 52) ≡ of_bits binary64 b
unfolding of_bits
by_fields b = refl

pub returns-then-exponent-lt1023 : goal.returns-then-exponent-lt1023
returns-then-exponent-lt1023 c = let b = c.args.bits in below (leb (2 ^ 63) b) (b % 2 ^ 63 / 2 ^ 52) (b % 2 ^ 52) (omega arith) c.if-exponent-lt1023.true ∙ ap size_modulo (by_fields b)

pub returns-then-exponent-le1075 : goal.returns-then-exponent-le1075
returns-then-exponent-le1075 c = let b = c.args.bits in down_by (leb (2 ^ 63) b) (b % 2 ^ 63 / 2 ^ 52) (b % 2 ^ 52) c.if-exponent-lt1023.false c.if-exponent-le1075.true ∙ ap size_modulo (by_fields b)

pub returns-then-exponent-lt1107 : goal.returns-then-exponent-lt1107
returns-then-exponent-lt1107 c = let b = c.args.bits in up_by (leb (2 ^ 63) b) (b % 2 ^ 63 / 2 ^ 52) (b % 2 ^ 52) c.if-exponent-le1075.false c.if-exponent-lt1107.true ∙ ap size_modulo (by_fields b)

pub returns-else-exponent-lt1107 : goal.returns-else-exponent-lt1107
returns-else-exponent-lt1107 c = let b = c.args.bits in above (leb (2 ^ 63) b) (b % 2 ^ 63 / 2 ^ 52) (b % 2 ^ 52) c.if-exponent-lt1107.false (omega arith) ∙ ap size_modulo (by_fields b)
