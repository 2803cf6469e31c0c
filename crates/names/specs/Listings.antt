-- A table of names as the listings that the expressions over it are read with.
use Rattle.std.specs.Prelude.{ℕ, List, [], ◌∷◌, map}
use Rattle.syntax.specs.Names.{Constant, Standing, Listing}
use Rattle.units.specs.Spans.{part_of}
use Rattle.names.specs.declared.table.Value.{Value}
use Rattle.names.specs.declared.table.Value.TheVariants as V
use Rattle.names.specs.declared.table.Class.{Class}
use Rattle.names.specs.declared.table.Class.TheVariants as C
use Rattle.names.specs.declared.table.Name.{Name}
use Rattle.names.specs.declared.table.Names.{Names}
use Rattle.names.specs.Table.{text_of, class_of, listed}

abbrev pub constant_of : List ℕ → List ℕ → Value → Constant
constant_of source folded (V.Number x) = Constant.number x
constant_of source folded (V.String span) = Constant.string (part_of source folded span)
constant_of source folded (V.Boolean b) = Constant.boolean b
constant_of source folded V.Null = Constant.null
constant_of source folded V.Undefined = Constant.undefined

abbrev pub standing_of : List ℕ → List ℕ → Class → Standing
standing_of source folded C.Free = Standing.free
standing_of source folded C.Bound = Standing.bound
standing_of source folded (C.Constant value inlined) = Standing.constant (constant_of source folded value) inlined

abbrev pub listing : List ℕ → List ℕ → Name → Listing
listing source folded n = record { text = text_of n; standing = standing_of source folded (class_of n) }

abbrev pub table : List ℕ → List ℕ → Names → List Listing
table source folded t = map (listing source folded) (listed t)

-- the same from texts and classes, side by side
abbrev pub listings : List ℕ → List ℕ → List (List ℕ) → List Class → List Listing
listings source folded [] cs = []
listings source folded (text ∷ ts) [] = []
listings source folded (text ∷ ts) (class ∷ cs) = record { text = text; standing = standing_of source folded class } ∷ listings source folded ts cs
