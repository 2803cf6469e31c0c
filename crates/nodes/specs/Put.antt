-- How a new node is written into the entries.
use Rattle.std.specs.Prelude.{ℕ, ◌<◌, max, All, List, [], ◌∷◌, ◌++◌, length, drop, Some, None, slice_set}
use Rattle.units.specs.declared.span.Span.{Span}
use Rattle.nodes.specs.declared.kind.Row.{Row}
use Rattle.nodes.specs.declared.kind.Kind.{Kind}
use Rattle.nodes.specs.declared.kind.Kind.TheVariants as K
use Rattle.nodes.specs.declared.kind.Entry.{Entry}
use Rattle.nodes.specs.declared.shape.Part.{Part}
use Rattle.nodes.specs.declared.shape.Shape.{Shape}
use Rattle.nodes.specs.declared.shape.Shape.TheVariants as S
use Rattle.nodes.specs.Meaning.{no_span, at}

-- the parts name entries below n
abbrev pub AllBelow : ℕ → List Part → Type 0
AllBelow n ps = All (λ p. p.node < n) ps

abbrev pub first_of : List Part → ℕ
first_of [] = 0
first_of (p ∷ ps) = p.node

abbrev pub row : List Part → Row
row ps = record { first = first_of ps; count = length ps }

abbrev pub kind_of : Shape → List Part → Kind
kind_of (S.Number x) ps = K.Number x
kind_of (S.String s) ps = K.String s
kind_of (S.Boolean b) ps = K.Boolean b
kind_of S.Null ps = K.Null
kind_of (S.Name i) ps = K.Name i
kind_of S.EmptyArray ps = K.EmptyArray
kind_of (S.Unary o) ps = K.Unary o (first_of ps)
kind_of (S.Binary o) ps = K.Binary o (first_of ps) (first_of (drop 1 ps))
kind_of (S.Template s) ps = K.Template s (row ps)
kind_of (S.Member s m) ps = K.Member (first_of ps) s m
kind_of (S.Index m) ps = K.Index (first_of ps) (first_of (drop 1 ps)) m
kind_of (S.Call m) ps = K.Call (first_of ps) (row (drop 1 ps)) m
kind_of S.Chain ps = K.Chain (first_of ps)
kind_of S.Sequence ps = K.Sequence (first_of ps) (row (drop 1 ps))

-- an entry as a part of n, with q for the part that follows
abbrev pub tied : Entry → ℕ → ℕ → Span → Entry
tied e n q s = record { kind = e.kind; height = e.height; parent = Some n; next = q; after = s }

-- the entries with ps made into the parts of n, in a row
abbrev pub linked : List Part → ℕ → List Entry → List Entry
linked [] n es = es
linked (p ∷ ps) n es = slice_set (linked ps n es) p.node (tied (at (linked ps n es) p.node) n (first_of ps) p.after)

abbrev pub new_entry : Kind → ℕ → Entry
new_entry k h = record { kind = k; height = h; parent = None; next = 0; after = no_span }

-- the entries with a new node n over the parts ps
unfoldable pub with_node : List Entry → ℕ → Kind → ℕ → List Part → List Entry
with_node es n k h ps = slice_set (linked ps n es) n (new_entry k h)

-- the entries with a new node over the parts ps, behind the others
unfoldable pub with_added : List Entry → Kind → ℕ → List Part → List Entry
with_added es k h ps = linked ps (length es) es ++ (new_entry k h ∷ [])

-- the greatest height of the parts
abbrev pub tallest : List Entry → List Part → ℕ
tallest es [] = 0
tallest es (p ∷ ps) = max (at es p.node).height (tallest es ps)
