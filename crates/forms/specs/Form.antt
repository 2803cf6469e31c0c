-- The spelled-out form of an expression: the same expression, of literals that a source text can have.
-- There is no literal for a negative number, an infinity or NaN (ECMA-262, 12.9.3, Numeric Literals).
use Rattle.std.specs.Prelude.{Bool, true, false, pos, codes, Float}
use Rattle.std.specs.Float.{nan, inf, fin}
use Rattle.syntax.specs.Expr.{Expr, Exprs, Parts}
use Rattle.syntax.specs.Operators.{Un, Bin, Numeric}

-- a negative number is a unary minus of its magnitude
abbrev pub signed : Bool → Expr → Expr
signed true e = Expr.unary Un.minus e
signed false e = e

abbrev pub spell_number : Float → Expr
spell_number nan = Expr.name (codes "NaN")
spell_number (inf s) =
    Expr.binary (Bin.numeric Numeric.divide) (signed s (Expr.number (fin false 1 (pos 0)))) (Expr.number (fin false 0 (pos 0)))
spell_number (fin s m e) = signed s (Expr.number (fin false m e))

abbrev mutual
  pub spell : Expr → Expr
  spell (Expr.number x) = spell_number x
  spell (Expr.string s) = Expr.string s
  spell (Expr.boolean b) = Expr.boolean b
  spell Expr.null = Expr.null
  spell (Expr.name s) = Expr.name s
  spell Expr.array = Expr.array
  spell (Expr.unary o e) = Expr.unary o (spell e)
  spell (Expr.binary o e f) = Expr.binary o (spell e) (spell f)
  spell (Expr.template s ps) = Expr.template s (spell_parts ps)
  spell (Expr.member m e s) = Expr.member m (spell e) s
  spell (Expr.index m e f) = Expr.index m (spell e) (spell f)
  spell (Expr.call m e es) = Expr.call m (spell e) (spell_all es)
  spell (Expr.chain e) = Expr.chain (spell e)
  spell (Expr.sequence e es) = Expr.sequence (spell e) (spell_all es)

  pub spell_all : Exprs → Exprs
  spell_all Exprs.end = Exprs.end
  spell_all (Exprs.more e es) = Exprs.more (spell e) (spell_all es)

  pub spell_parts : Parts → Parts
  spell_parts Parts.done = Parts.done
  spell_parts (Parts.part e s ps) = Parts.part (spell e) s (spell_parts ps)
