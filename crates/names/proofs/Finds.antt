-- Where a text stands first, from what a search through the names says of each.
use Rattle.std.proofs.Common.{◌≡◌, ℕ, ◌<◌, ◌≤◌, List, [], map, length, Some, None, Option, ◌≢◌, sym, ◌∙◌, arith}
use Rattle.std.specs.List.{AllWithin, HoldsAt}
use Rattle.std.specs.Option.{MatchOption}
use Rattle.std.proofs.lemmas.List.{length-map, get_or-map}
use Rattle.names.specs.declared.table.Class.TheVariants as C
use Rattle.names.specs.declared.table.Name.{Name}
use Rattle.names.specs.Table.{text_of, NotBefore, FirstAt}

blank : Name
blank = record { text = []; len = 0; class = C.Free }

not_before : (ns : List Name) (text : List ℕ) (k : ℕ) → k ≤ length ns → AllWithin (λ n. text_of n ≢ text) ns 0 k → NotBefore (map text_of ns) text k
not_before ns text k l others j h e = others j blank (omega arith) h (sym (get_or-map text_of ns j blank [] (omega arith)) ∙ e)

pub first_at : (ns : List Name) (text : List ℕ) (r : Option ℕ) → MatchOption r (AllWithin (λ n. text_of n ≢ text) ns 0 (length ns)) (λ i. (i < length ns) × HoldsAt (λ n. text_of n ≡ text) ns i × AllWithin (λ n. text_of n ≢ text) ns 0 i) → FirstAt (map text_of ns) text r
first_at ns text None others = rw length-map (not_before ns text (length ns) (omega arith) others)
first_at ns text (Some i) found =
    (omega (arith, found.0, length-map ns text_of), get_or-map text_of ns i blank [] found.0 ∙ found.1 blank, not_before ns text i (omega (arith, found.0)) found.2)
