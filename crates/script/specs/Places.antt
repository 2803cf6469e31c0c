-- Each place that a call names is a part of the source text.
use Rattle.std.specs.Prelude.{◌≡◌, Bool, true, false, List, All}
use Rattle.std.specs.Coded.{Coded-set, code_by, coded_bool, Unit-prop}
use Rattle.std.proofs.Math.Path.{refl}
use Rattle.units.specs.declared.span.Span.{Span}
use Rattle.units.specs.declared.span.Text.{Text}
use Rattle.units.specs.declared.span.Text.TheVariants as T
use Rattle.units.specs.Spans.{is_source}
use Rattle.names.specs.declared.table.Value.{Value}
use Rattle.names.specs.declared.table.Value.TheVariants as V
use Rattle.names.specs.declared.table.Class.{Class}
use Rattle.names.specs.declared.table.Class.TheVariants as C
use Rattle.nodes.specs.declared.shape.Part.{Part}
use Rattle.nodes.specs.declared.shape.Shape.{Shape}
use Rattle.nodes.specs.declared.shape.Shape.TheVariants as S

abbrev pub IsInSource : Span → Type 0
IsInSource span = span.text ≡ T.Source

abbrev pub IsValueInSource : Value → Type 0
IsValueInSource (V.Number x) = Unit {0}
IsValueInSource (V.String span) = IsInSource span
IsValueInSource (V.Boolean b) = Unit {0}
IsValueInSource V.Null = Unit {0}
IsValueInSource V.Undefined = Unit {0}

abbrev pub IsClassInSource : Class → Type 0
IsClassInSource C.Free = Unit {0}
IsClassInSource C.Bound = Unit {0}
IsClassInSource (C.Constant value inlined) = IsValueInSource value

abbrev pub IsShapeInSource : Shape → Type 0
IsShapeInSource (S.Number x) = Unit {0}
IsShapeInSource (S.String span) = IsInSource span
IsShapeInSource (S.Boolean b) = Unit {0}
IsShapeInSource S.Null = Unit {0}
IsShapeInSource (S.Name i) = Unit {0}
IsShapeInSource S.EmptyArray = Unit {0}
IsShapeInSource (S.Unary o) = Unit {0}
IsShapeInSource (S.Binary o) = Unit {0}
IsShapeInSource (S.Template span) = IsInSource span
IsShapeInSource (S.Member span m) = IsInSource span
IsShapeInSource (S.Index m) = Unit {0}
IsShapeInSource (S.Call m) = Unit {0}
IsShapeInSource S.Chain = Unit {0}
IsShapeInSource S.Sequence = Unit {0}

abbrev pub ArePartsInSource : List Part → Type 0
ArePartsInSource parts = All (λ part. IsInSource part.after) parts

-- that the shape is in the source text is a mere fact, as a field's has to be: one of two texts is named
abbrev text_by : Bool → Text
text_by true = T.Source
text_by false = T.Folded

text_by-is : (text : Text) → text_by (is_source text) ≡ text
text_by-is T.Source = refl
text_by-is T.Folded = refl

IsInSource-prop : (span : Span) → IsProp (IsInSource span)
IsInSource-prop span = Coded-set (code_by Bool coded_bool is_source text_by text_by-is) span.text T.Source

pub IsShapeInSource-prop : (shape : Shape) → IsProp (IsShapeInSource shape)
IsShapeInSource-prop (S.Number x) = Unit-prop
IsShapeInSource-prop (S.String span) = IsInSource-prop span
IsShapeInSource-prop (S.Boolean b) = Unit-prop
IsShapeInSource-prop S.Null = Unit-prop
IsShapeInSource-prop (S.Name i) = Unit-prop
IsShapeInSource-prop S.EmptyArray = Unit-prop
IsShapeInSource-prop (S.Unary o) = Unit-prop
IsShapeInSource-prop (S.Binary o) = Unit-prop
IsShapeInSource-prop (S.Template span) = IsInSource-prop span
IsShapeInSource-prop (S.Member span m) = IsInSource-prop span
IsShapeInSource-prop (S.Index m) = Unit-prop
IsShapeInSource-prop (S.Call m) = Unit-prop
IsShapeInSource-prop S.Chain = Unit-prop
IsShapeInSource-prop S.Sequence = Unit-prop
