-- What printing a number asks of a number writer.
use Rattle.std.specs.Prelude.{◌≡◌, ℕ, false, List, pos, Some, codes, Option, Float}
use Rattle.std.specs.Float.{nan, inf, fin}
use Rattle.std.proofs.Math.Utf8.{encodes}
use Rattle.forms.specs.Show.{written}

-- The writer w has these bytes for the magnitude of a finite number. An infinity is spelled with 1 and 0.
abbrev pub Gives : (Float → Option (List ℕ)) → Float → List ℕ → Type 0
Gives w nan bytes = Unit {0}
Gives w (inf s) bytes = (w (fin false 1 (pos 0)) ≡ Some (codes "1")) × (w (fin false 0 (pos 0)) ≡ Some (codes "0"))
Gives w (fin s m e) bytes = encodes (written (w (fin false m e))) ≡ bytes
