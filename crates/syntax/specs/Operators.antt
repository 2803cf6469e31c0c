-- The operators of the expressions that a tree holds, grouped by what ECMA-262 does with their operands.
use Rattle.std.specs.Prelude.{ℕ, List, Some, None, codes, Option}
use Rattle.syntax.specs.declared.operators.UnaryOperator.{UnaryOperator}
use Rattle.syntax.specs.declared.operators.UnaryOperator.TheVariants as U
use Rattle.syntax.specs.declared.operators.BinaryOperator.{BinaryOperator}
use Rattle.syntax.specs.declared.operators.BinaryOperator.TheVariants as B

-- 13.5, Unary Operators
pub data Un : Type 0 where
  minus plus not bit_not typeof void : Un

-- those that turn both operands into numbers (13.15.3, ApplyStringOrNumericBinaryOperator), but for `+`
pub data Numeric : Type 0 where
  subtract multiply divide remainder power : Numeric
  shift_left shift_right shift_right_zero : Numeric
  bit_or bit_xor bit_and : Numeric

-- 13.10, Relational Operators
pub data Relation : Type 0 where
  less less_equal greater greater_equal : Relation

-- 13.11, Equality Operators
pub data Equality : Type 0 where
  equal not_equal strict_equal strict_not_equal : Equality

pub data Bin : Type 0 where
  add : Bin
  numeric : Numeric → Bin
  relation : Relation → Bin
  equality : Equality → Bin

-- `delete` is no operator of a tree
abbrev pub unary_of : UnaryOperator → Option Un
unary_of U.UnaryNegation = Some Un.minus
unary_of U.UnaryPlus = Some Un.plus
unary_of U.LogicalNot = Some Un.not
unary_of U.BitwiseNot = Some Un.bit_not
unary_of U.Typeof = Some Un.typeof
unary_of U.Void = Some Un.void
unary_of U.Delete = None

-- nor are `in` and `instanceof`
abbrev pub binary_of : BinaryOperator → Option Bin
binary_of B.Equality = Some (Bin.equality Equality.equal)
binary_of B.Inequality = Some (Bin.equality Equality.not_equal)
binary_of B.StrictEquality = Some (Bin.equality Equality.strict_equal)
binary_of B.StrictInequality = Some (Bin.equality Equality.strict_not_equal)
binary_of B.LessThan = Some (Bin.relation Relation.less)
binary_of B.LessEqualThan = Some (Bin.relation Relation.less_equal)
binary_of B.GreaterThan = Some (Bin.relation Relation.greater)
binary_of B.GreaterEqualThan = Some (Bin.relation Relation.greater_equal)
binary_of B.Addition = Some Bin.add
binary_of B.Subtraction = Some (Bin.numeric Numeric.subtract)
binary_of B.Multiplication = Some (Bin.numeric Numeric.multiply)
binary_of B.Division = Some (Bin.numeric Numeric.divide)
binary_of B.Remainder = Some (Bin.numeric Numeric.remainder)
binary_of B.Exponential = Some (Bin.numeric Numeric.power)
binary_of B.ShiftLeft = Some (Bin.numeric Numeric.shift_left)
binary_of B.ShiftRight = Some (Bin.numeric Numeric.shift_right)
binary_of B.ShiftRightZeroFill = Some (Bin.numeric Numeric.shift_right_zero)
binary_of B.BitwiseOR = Some (Bin.numeric Numeric.bit_or)
binary_of B.BitwiseXOR = Some (Bin.numeric Numeric.bit_xor)
binary_of B.BitwiseAnd = Some (Bin.numeric Numeric.bit_and)
binary_of B.In = None
binary_of B.Instanceof = None

-- 12.8, Punctuators, and 12.7, Names and Keywords
abbrev pub un_text : Un → List ℕ
un_text Un.minus = codes "-"
un_text Un.plus = codes "+"
un_text Un.not = codes "!"
un_text Un.bit_not = codes "~"
un_text Un.typeof = codes "typeof"
un_text Un.void = codes "void"

abbrev pub numeric_text : Numeric → List ℕ
numeric_text Numeric.subtract = codes "-"
numeric_text Numeric.multiply = codes "*"
numeric_text Numeric.divide = codes "/"
numeric_text Numeric.remainder = codes "%"
numeric_text Numeric.power = codes "**"
numeric_text Numeric.shift_left = codes "<<"
numeric_text Numeric.shift_right = codes ">>"
numeric_text Numeric.shift_right_zero = codes ">>>"
numeric_text Numeric.bit_or = codes "|"
numeric_text Numeric.bit_xor = codes "^"
numeric_text Numeric.bit_and = codes "&"

abbrev pub relation_text : Relation → List ℕ
relation_text Relation.less = codes "<"
relation_text Relation.less_equal = codes "<="
relation_text Relation.greater = codes ">"
relation_text Relation.greater_equal = codes ">="

abbrev pub equality_text : Equality → List ℕ
equality_text Equality.equal = codes "=="
equality_text Equality.not_equal = codes "!="
equality_text Equality.strict_equal = codes "==="
equality_text Equality.strict_not_equal = codes "!=="

abbrev pub bin_text : Bin → List ℕ
bin_text Bin.add = codes "+"
bin_text (Bin.numeric o) = numeric_text o
bin_text (Bin.relation o) = relation_text o
bin_text (Bin.equality o) = equality_text o
