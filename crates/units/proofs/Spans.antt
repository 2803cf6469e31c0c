-- A span's part, as the folded text grows.
use Rattle.std.proofs.Common.{◌≡◌, ℕ, ◌+◌, ◌≤◌, true, leb, List, ◌++◌, length, take, drop, refl, arith, length-drop, leb-true}
use Rattle.std.proofs.lemmas.List.{drop-append-le, take-append-le}
use Rattle.units.specs.Spans.{text_of, part_of, is_within}
use Rattle.units.specs.declared.span.Text.{Text}
use Rattle.units.specs.declared.span.Text.TheVariants.{Source, Folded}
use Rattle.units.specs.declared.span.Span.{Span}

appended : (text : Text) (start len : ℕ) (source folded more : List ℕ) → leb (start + len) (text_of (length source) (length folded) text) ≡ true
    → take len (drop start (text_of source (folded ++ more) text)) ≡ take len (drop start (text_of source folded text))
appended Source start len source folded more h = refl
appended Folded start len source folded more h =
    let here : start ≤ length folded = omega (arith, leb-true) in
    let rest : len ≤ length (drop start folded) = simp length-drop (omega (arith, leb-true)) in
    rw (drop-append-le, take-append-le)

-- what is appended to the folded text leaves the part of a span within it as it was
pub part_of-append : (source folded more : List ℕ) (span : Span) → is_within span (length source) (length folded) ≡ true → part_of source (folded ++ more) span ≡ part_of source folded span
part_of-append source folded more span h = appended span.text span.start span.len source folded more h
