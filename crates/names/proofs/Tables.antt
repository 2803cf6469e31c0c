-- A table is known by its texts and its classes.
use Rattle.std.proofs.Common.{◌≡◌, ℕ, List, [], ◌∷◌, map, refl, ap}
use Rattle.names.specs.declared.table.Name.{Name}
use Rattle.names.specs.declared.table.Names.{Names}
use Rattle.names.specs.Table.{text_of, class_of, listed, texts, classes}
use Rattle.names.specs.Listings.{listing, listings, table}

side_by_side : (source folded : List ℕ) (ns : List Name) → map (listing source folded) ns ≡ listings source folded (map text_of ns) (map class_of ns)
side_by_side source folded [] = refl
side_by_side source folded (n ∷ ns) = ap (λ ls. listing source folded n ∷ ls) (side_by_side source folded ns)

pub table_from : (source folded : List ℕ) (t : Names) → table source folded t ≡ listings source folded (texts t) (classes t)
table_from source folded t = side_by_side source folded (listed t)
