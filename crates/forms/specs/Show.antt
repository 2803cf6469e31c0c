-- The source text of an expression in its spelled-out form, as code points.
use Rattle.std.specs.Prelude.{ℕ, Bool, true, false, List, [], ◌++◌, Some, None, codes, Option, Float}
use Rattle.syntax.specs.Expr.{Expr, Exprs, Parts}
use Rattle.syntax.specs.Operators.{Un, un_text, bin_text}
use Rattle.units.specs.CodePoints.{code_points}
use Rattle.forms.specs.declared.parens.Place.{Place}
use Rattle.forms.specs.declared.parens.Place.TheVariants.{Argument, Operand, Object}
use Rattle.forms.specs.Parens.{at}
use Rattle.forms.specs.Quoted.{quoted}

-- the text that a number writer gives a number, and nothing where it gives none
abbrev pub written : Option (List ℕ) → List ℕ
written None = []
written (Some text) = text

abbrev pub truth : Bool → List ℕ
truth true = codes "true"
truth false = codes "false"

-- a space follows a word
abbrev pub space : Un → List ℕ
space Un.minus = []
space Un.plus = []
space Un.not = []
space Un.bit_not = []
space Un.typeof = codes " "
space Un.void = codes " "

-- a unary operator as it stands before its operand
abbrev pub prefixed : Un → List ℕ
prefixed o = un_text o ++ space o

-- what stands before a member's name, and before an index's and a call's bracket
abbrev pub dot : Bool → List ℕ
dot true = codes "?."
dot false = codes "."

abbrev pub mark : Bool → List ℕ
mark true = codes "?."
mark false = []

-- w is the number writer
module _ (w : Float → Option (List ℕ)) where
  abbrev mutual
    pub show : Expr → List ℕ
    show (Expr.number x) = written (w x)
    show (Expr.string s) = quoted s
    show (Expr.boolean b) = truth b
    show Expr.null = codes "null"
    show (Expr.name s) = code_points s
    show Expr.array = codes "[]"
    show (Expr.unary o e) = un_text o ++ space o ++ at Operand e (show e)
    show (Expr.binary o e f) = at Operand e (show e) ++ bin_text o ++ at Operand f (show f)
    show (Expr.template s ps) = codes "`" ++ code_points s ++ show_parts ps ++ codes "`"
    show (Expr.member m e s) = at Object e (show e) ++ dot m ++ code_points s
    show (Expr.index m e f) = at Object e (show e) ++ mark m ++ codes "[" ++ show f ++ codes "]"
    show (Expr.call m e es) = at Operand e (show e) ++ mark m ++ codes "(" ++ show_arguments es ++ codes ")"
    show (Expr.chain e) = at Operand e (show e)
    show (Expr.sequence e es) = at Operand e (show e) ++ show_further Operand es

    pub show_arguments : Exprs → List ℕ
    show_arguments Exprs.end = []
    show_arguments (Exprs.more e es) = at Argument e (show e) ++ show_further Argument es

    -- each with a comma before it
    pub show_further : Place → Exprs → List ℕ
    show_further p Exprs.end = []
    show_further p (Exprs.more e es) = codes "," ++ at p e (show e) ++ show_further p es

    pub show_parts : Parts → List ℕ
    show_parts Parts.done = []
    show_parts (Parts.part e s ps) = codes "${" ++ show e ++ codes "}" ++ code_points s ++ show_parts ps
