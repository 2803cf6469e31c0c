-- What is read of a line.
use Rattle.std.specs.Prelude.{◌≡◌, ℕ, true, false, List, Some, None, Ok, Err, Option, Result}
use Rattle.script.specs.Calls.{Says}
use Rattle.script.specs.Words.{blank, first_word, after_first}
use Rattle.script.specs.declared.calls.Call.{Call}
use Rattle.script.specs.declared.fault.Fault.{Fault}

-- A line of spaces or a comment alone is no call, and every other one is a call or is refused.
abbrev pub Reads : List ℕ → Result (Option Call) Fault → Type 0
Reads s (Ok None) = blank s ≡ true
Reads s (Ok (Some c)) = (verb : List ℕ) × (first_word s ≡ Some verb) × Says verb (after_first s) c
Reads s (Err e) = blank s ≡ false
