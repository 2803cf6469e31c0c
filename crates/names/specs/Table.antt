-- What a table of names lists: the texts and the classes of its records, of which there are at most 64.
use Rattle.std.specs.Prelude.{◌≡◌, ℕ, ◌<◌, ◌≤◌, Bool, true, ◌&&◌, ◌⊎◌, List, [], ◌∷◌, ◌++◌, map, length, take, Some, None, Option, ◌≢◌, nat_le, slice_index_or}
use Rattle.std.specs.Float.{float_is_finite}
use Rattle.units.specs.Spans.{lies_in_source}
use Rattle.names.specs.declared.table.Value.{Value}
use Rattle.names.specs.declared.table.Value.TheVariants as V
use Rattle.names.specs.declared.table.Class.{Class}
use Rattle.names.specs.declared.table.Class.TheVariants as C
use Rattle.names.specs.declared.table.Name.{Name}
use Rattle.names.specs.declared.table.Names.{Names}

abbrev pub text_of : Name → List ℕ
text_of n = take n.len n.text

abbrev pub class_of : Name → Class
class_of n = n.class

abbrev pub listed : Names → List Name
listed t = t.records.items

abbrev pub texts : Names → List (List ℕ)
texts t = map text_of (listed t)

abbrev pub classes : Names → List Class
classes t = map class_of (listed t)

-- no text before the index k is this one
abbrev pub NotBefore : List (List ℕ) → List ℕ → ℕ → Type 0
NotBefore ts text k = (j : ℕ) → j < k → slice_index_or ts j [] ≢ text

-- where a text stands first
abbrev pub FirstAt : List (List ℕ) → List ℕ → Option ℕ → Type 0
FirstAt ts text (Some i) = (i < length ts) × (slice_index_or ts i [] ≡ text) × NotBefore ts text i
FirstAt ts text None = NotBefore ts text (length ts)

-- What adding a text leaves: it stands last, as a free name, unless there are 64 names or the text has over 64 units.
abbrev pub Added : Names → List ℕ → Option ℕ → Names → Type 0
Added before text (Some i) after =
    (i ≡ length (texts before)) × (i < 64) × (length text ≤ 64) × (texts after ≡ texts before ++ text ∷ [])
    × (classes after ≡ classes before ++ C.Free ∷ [])
Added before text None after = ((length (texts before) ≡ 64) ⊎ (64 < length text)) × (after ≡ before)

-- A number is finite, and a string a part of the source text, whose length is given, with at most 1,024 units.
abbrev pub constant_value : Value → ℕ → Bool
constant_value (V.Number x) source = float_is_finite x
constant_value (V.String span) source = lies_in_source span source && nat_le span.len 1024
constant_value (V.Boolean b) source = true
constant_value V.Null source = true
constant_value V.Undefined source = true
