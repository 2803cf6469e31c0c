-- The calls on a tree: when each is refused, and what it leaves.
use Rattle.std.specs.Prelude.{◌≡◌, ℕ, suc, ◌<◌, ◌≤◌, Bool, true, false, cond, ◌&&◌, List, [], ◌∷◌, ◌++◌, length, drop, is_some, Some, None, Option, ◌≢◌, All, nat_lt, slice_index_or, Float}
use Rattle.units.specs.declared.span.Span.{Span}
use Rattle.units.specs.Spans.{is_source}
use Rattle.template.specs.Raw.{Raw}
use Rattle.names.specs.declared.table.Class.{Class}
use Rattle.names.specs.declared.table.Class.TheVariants as C
use Rattle.names.specs.Table.{constant_value}
use Rattle.words.specs.Words.{identifier, name}
use Rattle.syntax.specs.Expr.{Expr, marked}
use Rattle.nodes.specs.declared.shape.Part.{Part}
use Rattle.nodes.specs.declared.shape.Shape.{Shape}
use Rattle.nodes.specs.declared.shape.Shape.TheVariants as S
use Rattle.nodes.specs.Meaning.{units_of, at, has}
use Rattle.nodes.specs.Made.{given, made, count_fits, marks_fit, deepest, nodes, loose, free}
use Rattle.forms.specs.Printed.{printed}
use Rattle.tree.specs.declared.refusal.Refusal.{Refusal}
use Rattle.tree.specs.declared.refusal.Refusal.TheVariants as R
use Rattle.tree.specs.declared.refusal.OpenError.{OpenError}
use Rattle.tree.specs.declared.refusal.OpenError.TheVariants as O
use Rattle.tree.specs.State.{State, used, stands_for, Present, span_fits}

-- the number of a refusal in the table of `docs/REFUSALS.md`
abbrev pub number_of : Refusal → ℕ
number_of R.WrongTime = 2
number_of R.BadName = 3
number_of R.NotListed = 4
number_of R.NoSuchNode = 5
number_of R.BadNode = 6
number_of R.LooseMark = 7
number_of R.TooDeep = 8
number_of R.NoRoom = 10
number_of R.ShortOutput = 11

-- the number of a refused `open`; want of memory has none
abbrev pub open_number_of : OpenError → Option ℕ
open_number_of O.OutsideLimits = Some 1
open_number_of O.NoMemory = None

-- Conditions are checked in order: a refusal says that those before its own held, and its own did not.
abbrev pub Not : Type 0 → Type 0
Not P = P → ⊥

-- ---- names

abbrev pub class_fits : State → Class → Bool
class_fits a C.Free = true
class_fits a C.Bound = true
class_fits a (C.Constant v i) = constant_value v (length a.texts.source)

abbrev pub name_fits : State → List ℕ → Class → Bool
name_fits a text c = name text && class_fits a c

-- no name has this text, and there is room for one more
abbrev pub Listable : State → List ℕ → Type 0
Listable a text = ((i : ℕ) → i < length a.texts.names → slice_index_or a.texts.names i [] ≢ text) × (length a.texts.names < 64)

abbrev pub NameRefused : State → List ℕ → Class → Refusal → Type 0
NameRefused a text c R.WrongTime = is_some a.root ≡ true
NameRefused a text c R.BadName = (a.root ≡ None) × (name_fits a text c ≡ false)
NameRefused a text c R.NotListed = (a.root ≡ None) × (name_fits a text c ≡ true) × Not (Listable a text)
NameRefused a text c R.NoSuchNode = ⊥
NameRefused a text c R.BadNode = ⊥
NameRefused a text c R.LooseMark = ⊥
NameRefused a text c R.TooDeep = ⊥
NameRefused a text c R.NoRoom = ⊥
NameRefused a text c R.ShortOutput = ⊥

-- the name stands last in the table, and nothing else has changed
pub record Named (a : State) (text : List ℕ) (c : Class) (i : ℕ) (b : State) : Type 0 where
  pub asked : (a.root ≡ None) × (name_fits a text c ≡ true) × Listable a text
  pub number : i ≡ length a.texts.names
  pub names : b.texts.names ≡ a.texts.names ++ (text ∷ [])
  pub classes : b.classes ≡ a.classes ++ (c ∷ [])
  pub source : b.texts.source ≡ a.texts.source
  pub folded : b.texts.folded ≡ a.texts.folded
  pub entries : b.entries ≡ a.entries
  pub capacity : b.capacity ≡ a.capacity
  pub root : b.root ≡ a.root
  pub room : b.room ≡ a.room
  pub others : (m : ℕ) → m < used a → stands_for b m ≡ stands_for a m

-- ---- build

abbrev pub name_listed : State → Shape → Bool
name_listed a (S.Number x) = true
name_listed a (S.String s) = true
name_listed a (S.Boolean b) = true
name_listed a S.Null = true
name_listed a (S.Name i) = nat_lt i (length a.texts.names)
name_listed a S.EmptyArray = true
name_listed a (S.Unary o) = true
name_listed a (S.Binary o) = true
name_listed a (S.Template s) = true
name_listed a (S.Member s m) = true
name_listed a (S.Index m) = true
name_listed a (S.Call m) = true
name_listed a S.Chain = true
name_listed a S.Sequence = true

-- the parts are nodes without a parent, none twice, and a name is listed
abbrev pub Found : State → Shape → List Part → Type 0
Found a sh ps = (free a.entries ps ≡ true) × (name_listed a sh ≡ true)

-- a part of the source text
abbrev pub InSource : State → Span → Type 0
InSource a s = (is_source s.text ≡ true) × (span_fits a.texts s ≡ true)

-- a part of the source text that is a raw part of a template
abbrev pub RawPart : State → Span → Type 0
RawPart a s = InSource a s × ((cooked : List ℕ) × Raw (units_of a.texts s) cooked)

-- the text after each part is one
abbrev pub RawParts : State → List Part → Type 0
RawParts a ps = All (λ p. RawPart a p.after) ps

-- what a shape says by itself; `written` is whether the tree's writer has a text for its number
abbrev pub ShapeFits : Bool → State → Shape → Type 0
ShapeFits written a (S.Number x) = written ≡ true
ShapeFits written a (S.String s) = InSource a s
ShapeFits written a (S.Boolean b) = Unit {0}
ShapeFits written a S.Null = Unit {0}
ShapeFits written a (S.Name i) = Unit {0}
ShapeFits written a S.EmptyArray = Unit {0}
ShapeFits written a (S.Unary o) = Unit {0}
ShapeFits written a (S.Binary o) = Unit {0}
ShapeFits written a (S.Template s) = RawPart a s
ShapeFits written a (S.Member s m) = InSource a s × (identifier (units_of a.texts s) ≡ true)
ShapeFits written a (S.Index m) = Unit {0}
ShapeFits written a (S.Call m) = Unit {0}
ShapeFits written a S.Chain = Unit {0}
ShapeFits written a S.Sequence = Unit {0}

-- whether a text is there for the number of a shape, if it has one
abbrev pub is_written : (Float → Option (List ℕ)) → Shape → Bool
is_written text (S.Number x) = is_some (text x)
is_written text (S.String s) = true
is_written text (S.Boolean b) = true
is_written text S.Null = true
is_written text (S.Name i) = true
is_written text S.EmptyArray = true
is_written text (S.Unary o) = true
is_written text (S.Binary o) = true
is_written text (S.Template s) = true
is_written text (S.Member s m) = true
is_written text (S.Index m) = true
is_written text (S.Call m) = true
is_written text S.Chain = true
is_written text S.Sequence = true

abbrev pub Good : Bool → State → Shape → List Part → Type 0
Good written a sh ps = (count_fits sh (length ps) ≡ true) × ShapeFits written a sh × RawParts a ps

-- what the parts stand for
abbrev pub parts : State → List Part → List (Expr × List ℕ)
parts a ps = given a.texts a.entries ps

abbrev pub Shallow : State → List Part → Type 0
Shallow a ps = suc (deepest (parts a ps)) ≤ 64

abbrev pub BuildRefused : Bool → State → Shape → List Part → Refusal → Type 0
BuildRefused written a sh ps R.WrongTime = is_some a.root ≡ true
BuildRefused written a sh ps R.NoSuchNode = (a.root ≡ None) × Not (Found a sh ps)
BuildRefused written a sh ps R.BadNode = (a.root ≡ None) × Found a sh ps × Not (Good written a sh ps)
BuildRefused written a sh ps R.LooseMark = (a.root ≡ None) × Found a sh ps × Good written a sh ps × (marks_fit sh (parts a ps) ≡ false)
BuildRefused written a sh ps R.TooDeep = (a.root ≡ None) × Found a sh ps × Good written a sh ps × (marks_fit sh (parts a ps) ≡ true) × Not (Shallow a ps)
BuildRefused written a sh ps R.NoRoom = (a.root ≡ None) × Found a sh ps × Good written a sh ps × (marks_fit sh (parts a ps) ≡ true) × Shallow a ps × (used a ≡ a.capacity)
BuildRefused written a sh ps R.BadName = ⊥
BuildRefused written a sh ps R.NotListed = ⊥
BuildRefused written a sh ps R.ShortOutput = ⊥

abbrev pub Buildable : Bool → State → Shape → List Part → Type 0
Buildable written a sh ps = (a.root ≡ None) × Found a sh ps × Good written a sh ps × (marks_fit sh (parts a ps) ≡ true) × Shallow a ps × (used a < a.capacity)

-- The new node has the next number and stands for its shape over what its parts stood for; every other node stands
-- for what it did. The parts have the new node as their parent, and it has none.
pub record Built (written : Bool) (a : State) (sh : Shape) (ps : List Part) (n : ℕ) (b : State) : Type 0 where
  pub asked : Buildable written a sh ps
  pub number : n ≡ used a
  pub count : used b ≡ suc (used a)
  pub stands : made a.texts sh (parts a ps) ≡ Some (stands_for b n)
  pub others : (m : ℕ) → m < used a → stands_for b m ≡ stands_for a m
  pub top : (at b.entries n).parent ≡ None
  pub parents : (m : ℕ) → m < used a → (at b.entries m).parent ≡ cond (has m (nodes ps)) (Some n) (at a.entries m).parent
  pub capacity : b.capacity ≡ a.capacity
  pub texts : b.texts ≡ a.texts
  pub classes : b.classes ≡ a.classes
  pub root : b.root ≡ a.root
  pub room : b.room ≡ a.room

-- ---- root

abbrev pub RootRefused : State → ℕ → Refusal → Type 0
RootRefused a n R.WrongTime = is_some a.root ≡ true
RootRefused a n R.NoSuchNode = (a.root ≡ None) × (loose a.entries n ≡ false)
RootRefused a n R.LooseMark = (a.root ≡ None) × (loose a.entries n ≡ true) × (marked (stands_for a n) ≡ true)
RootRefused a n R.BadName = ⊥
RootRefused a n R.NotListed = ⊥
RootRefused a n R.BadNode = ⊥
RootRefused a n R.TooDeep = ⊥
RootRefused a n R.NoRoom = ⊥
RootRefused a n R.ShortOutput = ⊥

-- the root is named, and nothing else has changed
pub record RootNamed (a : State) (n : ℕ) (b : State) : Type 0 where
  pub asked : (a.root ≡ None) × (loose a.entries n ≡ true) × (marked (stands_for a n) ≡ false)
  pub state : b ≡ record { entries = a.entries; capacity = a.capacity; texts = a.texts; classes = a.classes; root = Some n; room = a.room }

-- ---- read

abbrev pub Readable : State → ℕ → Type 0
Readable a n = Present a n × ((s : List ℕ) × (stands_for a n ≡ Expr.string s))

abbrev pub ReadRefused : State → ℕ → Refusal → Type 0
ReadRefused a n R.NoSuchNode = Not (Readable a n)
ReadRefused a n R.WrongTime = ⊥
ReadRefused a n R.BadName = ⊥
ReadRefused a n R.NotListed = ⊥
ReadRefused a n R.BadNode = ⊥
ReadRefused a n R.LooseMark = ⊥
ReadRefused a n R.TooDeep = ⊥
ReadRefused a n R.NoRoom = ⊥
ReadRefused a n R.ShortOutput = ⊥

-- ---- open

abbrev pub InLimits : ℕ → ℕ → List ℕ → Type 0
InLimits entries folded source = (16 ≤ entries) × (entries ≤ 4096) × (folded ≤ 65536) × (length source ≤ 65536)

abbrev pub OpenRefused : ℕ → ℕ → List ℕ → OpenError → Type 0
OpenRefused entries folded source O.OutsideLimits = Not (InLimits entries folded source)
OpenRefused entries folded source O.NoMemory = InLimits entries folded source

-- a tree without nodes and names
pub record Opened (entries folded : ℕ) (source : List ℕ) (a : State) : Type 0 where
  pub asked : InLimits entries folded source
  pub capacity : a.capacity ≡ entries
  pub count : used a ≡ 0
  pub texts : a.texts ≡ record { names = []; source = source; folded = [] }
  pub classes : a.classes ≡ []
  pub root : a.root ≡ None
  pub room : a.room ≡ folded

-- ---- print

abbrev pub PrintRefused : (Float → Option (List ℕ)) → State → List ℕ → Refusal → Type 0
PrintRefused text a out R.WrongTime = a.root ≡ None
PrintRefused text a out R.ShortOutput = (r : ℕ) × (a.root ≡ Some r) × (length out < length (printed text (stands_for a r)))
PrintRefused text a out R.BadName = ⊥
PrintRefused text a out R.NotListed = ⊥
PrintRefused text a out R.NoSuchNode = ⊥
PrintRefused text a out R.BadNode = ⊥
PrintRefused text a out R.LooseMark = ⊥
PrintRefused text a out R.TooDeep = ⊥
PrintRefused text a out R.NoRoom = ⊥

-- the output begins with the text of the root's spelled-out form, and the rest of it is as it was
abbrev pub PrintedTo : (Float → Option (List ℕ)) → State → List ℕ → ℕ → List ℕ → Type 0
PrintedTo text a before n after =
    (r : ℕ) × (a.root ≡ Some r) × (n ≡ length (printed text (stands_for a r))) × (n ≤ length before) × (after ≡ printed text (stands_for a r) ++ drop n before)
