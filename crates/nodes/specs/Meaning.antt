-- What a node number stands for: an expression, read off the entries and the texts.
use Rattle.std.specs.Prelude.{◌≡◌, ℕ, zero, suc, ◌<◌, Bool, true, false, not, ◌&&◌, ◌||◌, List, [], ◌∷◌, ◌++◌, Some, None, Option, ◌==◌, nat_lt, slice_index_or}
use Rattle.units.specs.declared.span.Span.{Span}
use Rattle.units.specs.declared.span.Text.TheVariants.{Source}
use Rattle.units.specs.Spans.{part_of}
use Rattle.syntax.specs.Operators.{Un, Bin, unary_of, binary_of}
use Rattle.syntax.specs.Expr.{Expr, Exprs, Parts}
use Rattle.nodes.specs.declared.kind.Row.{Row}
use Rattle.nodes.specs.declared.kind.Kind.{Kind}
use Rattle.nodes.specs.declared.kind.Kind.TheVariants as K
use Rattle.nodes.specs.declared.kind.Entry.{Entry}

-- what the numbers and spans of the entries refer to
pub record Texts : Type 0 where
  pub names : List (List ℕ)
  pub source : List ℕ
  pub folded : List ℕ

abbrev pub units_of : Texts → Span → List ℕ
units_of t s = part_of t.source t.folded s

abbrev pub name_of : Texts → ℕ → List ℕ
name_of t i = slice_index_or t.names i []

abbrev pub no_span : Span
no_span = record { text = Source; start = 0; len = 0 }

abbrev pub blank : Entry
blank = record { kind = K.Null; height = 0; parent = None; next = 0; after = no_span }

-- the entry with the number n
abbrev pub at : List Entry → ℕ → Entry
at es n = slice_index_or es n blank

-- the parts of a row from the number l on, with the text after each
abbrev pub links : List Entry → ℕ → ℕ → List (ℕ × Span)
links es zero l = []
links es (suc k) l = (l, (at es l).after) ∷ links es k (at es l).next

abbrev pub row_of : List Entry → Row → List (ℕ × Span)
row_of es r = links es r.count r.first

-- the row of a node's parts, where it has one
abbrev pub links_of : List Entry → Kind → List (ℕ × Span)
links_of es (K.Number x) = []
links_of es (K.String s) = []
links_of es (K.Boolean b) = []
links_of es K.Null = []
links_of es (K.Name i) = []
links_of es K.EmptyArray = []
links_of es (K.Unary o a) = []
links_of es (K.Binary o a b) = []
links_of es (K.Template h r) = row_of es r
links_of es (K.Member a s m) = []
links_of es (K.Index a b m) = []
links_of es (K.Call a r m) = row_of es r
links_of es (K.Chain a) = []
links_of es (K.Sequence a r) = row_of es r

-- the parts before the row
abbrev pub fixed : Kind → List ℕ
fixed (K.Number x) = []
fixed (K.String s) = []
fixed (K.Boolean b) = []
fixed K.Null = []
fixed (K.Name i) = []
fixed K.EmptyArray = []
fixed (K.Unary o a) = a ∷ []
fixed (K.Binary o a b) = a ∷ b ∷ []
fixed (K.Template h r) = []
fixed (K.Member a s m) = a ∷ []
fixed (K.Index a b m) = a ∷ b ∷ []
fixed (K.Call a r m) = a ∷ []
fixed (K.Chain a) = a ∷ []
fixed (K.Sequence a r) = a ∷ []

abbrev pub nums : List (ℕ × Span) → List ℕ
nums [] = []
nums (x ∷ xs) = x.0 ∷ nums xs

abbrev pub kids_of : Kind → List (ℕ × Span) → List ℕ
kids_of k ls = fixed k ++ nums ls

-- the numbers of a node's parts, in order
abbrev pub kids : List Entry → ℕ → List ℕ
kids es n = kids_of (at es n).kind (links_of es (at es n).kind)

abbrev pub exprs_of : (ℕ → Expr) → List ℕ → Exprs
exprs_of g [] = Exprs.end
exprs_of g (x ∷ xs) = Exprs.more (g x) (exprs_of g xs)

abbrev pub parts_of : Texts → (ℕ → Expr) → List (ℕ × Span) → Parts
parts_of t g [] = Parts.done
parts_of t g (x ∷ xs) = Parts.part (g x.0) (units_of t x.1) (parts_of t g xs)

-- no tree holds an operator without a meaning
abbrev pub unary_by : Option Un → Expr → Expr
unary_by None e = Expr.null
unary_by (Some o) e = Expr.unary o e

abbrev pub binary_by : Option Bin → Expr → Expr → Expr
binary_by None e f = Expr.null
binary_by (Some o) e f = Expr.binary o e f

-- what a node stands for, from what its parts stand for
abbrev pub mean : Texts → (ℕ → Expr) → Kind → List (ℕ × Span) → Expr
mean t g (K.Number x) ls = Expr.number x
mean t g (K.String s) ls = Expr.string (units_of t s)
mean t g (K.Boolean b) ls = Expr.boolean b
mean t g K.Null ls = Expr.null
mean t g (K.Name i) ls = Expr.name (name_of t i)
mean t g K.EmptyArray ls = Expr.array
mean t g (K.Unary o a) ls = unary_by (unary_of o) (g a)
mean t g (K.Binary o a b) ls = binary_by (binary_of o) (g a) (g b)
mean t g (K.Template h r) ls = Expr.template (units_of t h) (parts_of t g ls)
mean t g (K.Member a s m) ls = Expr.member m (g a) (units_of t s)
mean t g (K.Index a b m) ls = Expr.index m (g a) (g b)
mean t g (K.Call a r m) ls = Expr.call m (g a) (exprs_of g (nums ls))
mean t g (K.Chain a) ls = Expr.chain (g a)
mean t g (K.Sequence a r) ls = Expr.sequence (g a) (exprs_of g (nums ls))

-- by recursion on a bound above the height
unfoldable pub expr_at : ℕ → Texts → List Entry → ℕ → Expr
expr_at zero t es n = Expr.null
expr_at (suc f) t es n = mean t (expr_at f t es) (at es n).kind (links_of es (at es n).kind)

-- what the node n stands for
unfoldable pub expr : Texts → List Entry → ℕ → Expr
expr t es n = expr_at (suc (at es n).height) t es n

-- membership
abbrev pub has : ℕ → List ℕ → Bool
has x [] = false
has x (y ∷ ys) = x == y || has x ys

abbrev pub distinct : List ℕ → Bool
distinct [] = true
distinct (x ∷ xs) = not (has x xs) && distinct xs

-- k is a part of n, which is in use
abbrev pub Under : List Entry → ℕ → ℕ → ℕ → Type 0
Under es used n k = (n < used) × (has k (kids es n) ≡ true)

-- a part is in use and lower than its node, which is its parent
abbrev pub Sound : List Entry → ℕ → Type 0
Sound es used = (n k : ℕ) → Under es used n k → (k < used) × ((at es k).height < (at es n).height) × ((at es k).parent ≡ Some n)

-- a node with a parent is a part of it
abbrev pub Held : List Entry → ℕ → Type 0
Held es used = (n k : ℕ) → (k < used) × ((at es k).parent ≡ Some n) → (nat_lt n used && has k (kids es n)) ≡ true

-- and no node is a part twice
abbrev pub Single : List Entry → ℕ → Type 0
Single es used = (n : ℕ) → n < used → distinct (kids es n) ≡ true

-- a way down from m to n through parts
abbrev pub Path : List Entry → ℕ → List ℕ → ℕ → Type 0
Path es n [] m = m ≡ n
Path es n (k ∷ ks) m = (has k (kids es m) ≡ true) × Path es n ks k

-- n is m or below it
abbrev pub Reaches : List Entry → ℕ → ℕ → Type 0
Reaches es m n = (ks : List ℕ) × Path es n ks m
