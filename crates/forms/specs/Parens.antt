-- Which expressions are parenthesised where. `Place` says where an expression stands: the whole text, an index's
-- key and a template's substitution are bare; an object is that of a member or an index; every part that is
-- neither bare, argument nor object is an operand. `Shape` says how closely its text holds together.
use Rattle.std.specs.Prelude.{ℕ, Bool, true, false, List, ◌++◌, codes}
use Rattle.syntax.specs.Expr.{Expr}
use Rattle.forms.specs.declared.parens.Place.{Place}
use Rattle.forms.specs.declared.parens.Place.TheVariants.{Bare, Argument, Operand, Object}
use Rattle.forms.specs.declared.parens.Shape.{Shape}
use Rattle.forms.specs.declared.parens.Shape.TheVariants.{Numeral, Closed, Loose, Sequence}

-- a numeral stands apart from the other literals, since `1.x` is no member
abbrev pub shape : Expr → Shape
shape (Expr.number x) = Numeral
shape (Expr.string s) = Closed
shape (Expr.boolean b) = Closed
shape Expr.null = Closed
shape (Expr.name s) = Closed
shape Expr.array = Closed
shape (Expr.unary o e) = Loose
shape (Expr.binary o e f) = Loose
shape (Expr.template s ps) = Closed
shape (Expr.member m e s) = Closed
shape (Expr.index m e f) = Closed
shape (Expr.call m e es) = Closed
shape (Expr.chain e) = Loose
shape (Expr.sequence e es) = Sequence

abbrev pub in_parens : Place → Shape → Bool
in_parens Bare s = false
in_parens Argument Numeral = false
in_parens Argument Closed = false
in_parens Argument Loose = false
in_parens Argument Sequence = true
in_parens Operand Numeral = false
in_parens Operand Closed = false
in_parens Operand Loose = true
in_parens Operand Sequence = true
in_parens Object Numeral = true
in_parens Object Closed = false
in_parens Object Loose = true
in_parens Object Sequence = true

abbrev pub parens : Bool → List ℕ → List ℕ
parens true text = codes "(" ++ text ++ codes ")"
parens false text = text

-- the text of e, as it stands at a place
abbrev pub at : Place → Expr → List ℕ → List ℕ
at p e text = parens (in_parens p (shape e)) text
