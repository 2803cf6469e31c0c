-- The shape of a node, which depends on its kind alone.
use Rattle.std.specs.Prelude.{◌≡◌, ℕ, List}
use Rattle.syntax.specs.Expr.{Expr}
use Rattle.units.specs.declared.span.Span.{Span}
use Rattle.nodes.specs.declared.kind.Kind.{Kind}
use Rattle.nodes.specs.Meaning.{Texts, mean}
use Rattle.forms.specs.declared.parens.Shape.{Shape}
use Rattle.forms.specs.Form.{spell}
use Rattle.forms.specs.Parens.{shape}

-- whatever its parts stand for, this is the shape of what a node of that kind stands for, spelled out
abbrev pub HasShape : Kind → Shape → Type 0
HasShape kind s = (t : Texts) (g : ℕ → Expr) (row : List (ℕ × Span)) → s ≡ shape (spell (mean t g kind row))
