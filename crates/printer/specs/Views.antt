-- What a node stands for, in what printing reads of a tree.
use Rattle.std.specs.Prelude.{ℕ, List, length}
use Rattle.syntax.specs.Expr.{Expr}
use Rattle.names.specs.Table.{texts}
use Rattle.nodes.specs.Meaning.{Texts, row_of, links_of, nums, kids_of, mean, expr}
use Rattle.nodes.specs.declared.kind.Row.{Row}
use Rattle.nodes.specs.declared.kind.Kind.{Kind}
use Rattle.printer.specs.declared.view.View.{View}
use Rattle.printer.specs.Numbers.{AllBelow}

-- what the entries refer to
abbrev pub texts_of : {W : Type 0} → View W → Texts
texts_of v = record { names = texts v.names.now; source = v.texts.source.now; folded = v.texts.folded.now }

-- what the node n stands for
abbrev pub expr_in : {W : Type 0} → View W → ℕ → Expr
expr_in v n = expr (texts_of v) v.entries.now n

-- what a node of this kind stands for
abbrev pub meaning_in : {W : Type 0} → View W → Kind → Expr
meaning_in v k = mean (texts_of v) (expr_in v) k (links_of v.entries.now k)

-- the numbers of the parts in a row, and of all parts of a node of this kind
abbrev pub parts_in : {W : Type 0} → View W → Row → List ℕ
parts_in v r = nums (row_of v.entries.now r)

abbrev pub kids_in : {W : Type 0} → View W → Kind → List ℕ
kids_in v k = kids_of k (links_of v.entries.now k)

-- these nodes are in use
abbrev pub InUse : {W : Type 0} → View W → List ℕ → Type 0
InUse v ms = AllBelow (length v.entries.now) ms
