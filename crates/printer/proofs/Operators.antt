-- The text of an operation, by that of its operator.
use Rattle.std.proofs.Common.{◌≡◌, ℕ, List, ◌++◌, Some, None, Option}
use lib.Ieee.{Float}
use Rattle.std.specs.Option.{option_map}
use Rattle.syntax.specs.Expr.{Expr}
use Rattle.syntax.specs.Operators.{Bin, bin_text}
use Rattle.nodes.specs.Meaning.{binary_by}
use Rattle.forms.specs.declared.parens.Place.TheVariants.{Operand}
use Rattle.forms.specs.Printed.{printed, printed_at}
use Rattle.forms.proofs.Bytes.{printed-binary}

pub binary_shown : (w : Float → Option (List ℕ)) (o : Option Bin) (e f : Expr) (text : List ℕ) → Some text ≡ option_map bin_text o
    → printed_at w Operand e ++ text ++ printed_at w Operand f ≡ printed w (binary_by o e f)
binary_shown w None e f text h = cc
binary_shown w (Some b) e f text h =
    let is : text ≡ bin_text b = cc in
    rw (is, printed-binary)
