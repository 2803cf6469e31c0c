-- What printing writes: the text of an expression's spelled-out form, in UTF-8.
use Rattle.std.specs.Prelude.{ℕ, List, Option, Float}
use Rattle.std.proofs.Math.Utf8.{encodes}
use Rattle.syntax.specs.Expr.{Expr, Exprs, Parts}
use Rattle.forms.specs.declared.parens.Place.{Place}
use Rattle.forms.specs.Form.{spell, spell_all, spell_parts}
use Rattle.forms.specs.Parens.{at}
use Rattle.forms.specs.Show.{show, show_arguments, show_further, show_parts}

module _ (w : Float → Option (List ℕ)) where
  abbrev pub printed : Expr → List ℕ
  printed e = encodes (show w (spell e))

  -- the same for an expression as a part, and for the parts of a call, a sequence and a template
  abbrev pub printed_at : Place → Expr → List ℕ
  printed_at p e = encodes (at p (spell e) (show w (spell e)))

  abbrev pub printed_arguments : Exprs → List ℕ
  printed_arguments es = encodes (show_arguments w (spell_all es))

  abbrev pub printed_further : Place → Exprs → List ℕ
  printed_further p es = encodes (show_further w p (spell_all es))

  abbrev pub printed_parts : Parts → List ℕ
  printed_parts ps = encodes (show_parts w (spell_parts ps))
