-- What is asked of every writer.
use Rattle.std.specs.Prelude.{◌≡◌, ℕ, ◌-◌, ◌^◌, ◌≤◌, List, length, pos, Some, None, Option, Float}
use Rattle.std.specs.Float.{binary64}
use Rattle.std.specs.Float.Ieee.{of_int}
use Rattle.arrayvec.specs.ArrayString.{ArrayString}
use Rattle.writer.specs.Literal.{literal}

-- a `NumberText`, since antt has no name for an alias
abbrev pub NumberText : Type 0
NumberText = ArrayString

-- no text is longer than n
abbrev pub Within : ℕ → (Float → Option (List ℕ)) → Type 0
Within n text = (x : Float) (t : List ℕ) → text x ≡ Some t → length t ≤ n

-- a text is a numeric literal whose value is the number, an integer up to 2 ^ 53 - 1
abbrev pub Exact : (Float → Option (List ℕ)) → Type 0
Exact text = (x : Float) (t : List ℕ) → text x ≡ Some t → (n : ℕ) × (n ≤ 2 ^ 53 - 1) × (literal t ≡ Some n) × (x ≡ of_int binary64 (pos n))

-- the result holds the text, or both are none
abbrev pub Wrote : Option (List ℕ) → Option NumberText → Type 0
Wrote None None = Unit {0}
Wrote None (Some w) = ⊥
Wrote (Some t) None = ⊥
Wrote (Some t) (Some w) = (w.bytes ≡ t) × (length w.bytes ≤ 64)
