-- What a tree holds, as its calls see it.
use Rattle.std.specs.Prelude.{◌≡◌, ℕ, ◌*◌, ◌<◌, ◌≤◌, Bool, true, ◌&&◌, List, length, Some, None, Option, nat_lt}
use Rattle.units.specs.declared.span.Span.{Span}
use Rattle.units.specs.Spans.{is_within}
use Rattle.names.specs.declared.table.Class.{Class}
use Rattle.syntax.specs.Expr.{Expr, levels}
use Rattle.nodes.specs.declared.kind.Kind.{Kind}
use Rattle.nodes.specs.declared.kind.Kind.TheVariants as K
use Rattle.nodes.specs.declared.kind.Entry.{Entry}
use Rattle.nodes.specs.Meaning.{Texts, at, expr, Reaches, Sound, Held, Single}

pub record State : Type 0 where
  -- the nodes
  pub entries : List Entry
  -- how many of them there may be
  pub capacity : ℕ
  pub texts : Texts
  pub classes : List Class
  pub root : Option ℕ
  -- how long the folded text may become
  pub room : ℕ

-- how many nodes there are
abbrev pub used : State → ℕ
used a = length a.entries

-- what the node n stands for
abbrev pub stands_for : State → ℕ → Expr
stands_for a n = expr a.texts a.entries n

-- before the root is named every node counts, and then those of the root's tree
abbrev pub PresentBy : Option ℕ → List Entry → ℕ → Type 0
PresentBy None es n = n < length es
PresentBy (Some r) es n = Reaches es r n

abbrev pub Present : State → ℕ → Type 0
Present a n = PresentBy a.root a.entries n

-- a part of a text that is there
abbrev pub span_fits : Texts → Span → Bool
span_fits t s = is_within s (length t.source) (length t.folded)

-- a kind refers to names and parts of texts that are there
abbrev pub kind_fits : Texts → Kind → Bool
kind_fits t K.Null = true
kind_fits t (K.Number x) = true
kind_fits t (K.String s) = span_fits t s
kind_fits t (K.Boolean b) = true
kind_fits t (K.Name i) = nat_lt i (length t.names)
kind_fits t K.EmptyArray = true
kind_fits t (K.Unary o a) = true
kind_fits t (K.Binary o a b) = true
kind_fits t (K.Template s r) = span_fits t s
kind_fits t (K.Member a s m) = span_fits t s
kind_fits t (K.Index a b m) = true
kind_fits t (K.Call a r m) = true
kind_fits t (K.Chain a) = true
kind_fits t (K.Sequence a r) = true

abbrev pub Fitting : Texts → List Entry → Type 0
Fitting t es = (n : ℕ) → n < length es → (kind_fits t (at es n).kind && span_fits t (at es n).after) ≡ true

-- Until the root is named, an entry's height is four times the levels below it. The slack is for folds, which may
-- put a deeper expression in a node's place.
abbrev pub Levelled : Option ℕ → Texts → List Entry → Type 0
Levelled root t es = root ≡ None → (n : ℕ) → n < length es → (at es n).height ≡ 4 * levels (expr t es n)

abbrev pub Rooted : Option ℕ → List Entry → Type 0
Rooted root es = (n : ℕ) → root ≡ Some n → n < length es

-- what the nodes of every tree keep
pub record Keeps (a : State) : Type 0 where
  pub sound : Sound a.entries (used a)
  pub held : Held a.entries (used a)
  pub single : Single a.entries (used a)
  pub fitting : Fitting a.texts a.entries
  pub levelled : Levelled a.root a.texts a.entries
  pub rooted : Rooted a.root a.entries

-- and their number, and the length of the folded text
pub record Kept (a : State) : Type 0 where
  pub within : used a ≤ a.capacity
  pub limited : a.capacity ≤ 4096
  pub roomy : length a.texts.folded ≤ a.room
  pub nodes : Keeps a

-- a tree, as a clause sees it
pub record Whole : Type 0 where
  pub state : State
  pub kept : Kept state
