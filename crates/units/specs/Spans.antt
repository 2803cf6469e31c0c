-- What a span stands for: `len` units from `start` on, of the source text or of the folded one.
use Rattle.std.specs.Prelude.{ℕ, ◌+◌, Bool, true, false, ◌&&◌, List, take, drop, nat_le}
use Rattle.units.specs.declared.span.Text.{Text}
use Rattle.units.specs.declared.span.Text.TheVariants.{Source, Folded}
use Rattle.units.specs.declared.span.Span.{Span}

-- of the two texts, or of their lengths, the one that is named
abbrev pub text_of : {A : Type 0} → A → A → Text → A
text_of source folded Source = source
text_of source folded Folded = folded

-- the units of a span: what is there of them, where it reaches past the end
abbrev pub part_of : List ℕ → List ℕ → Span → List ℕ
part_of source folded span = take span.len (drop span.start (text_of source folded span.text))

-- whether a span lies within texts of these lengths
abbrev pub is_within : Span → ℕ → ℕ → Bool
is_within span source folded = nat_le (span.start + span.len) (text_of source folded span.text)

-- whether a span is a part of the source text, of which the length is given
abbrev pub is_source : Text → Bool
is_source Source = true
is_source Folded = false

abbrev pub lies_in_source : Span → ℕ → Bool
lies_in_source span len = is_source span.text && nat_le (span.start + span.len) len
