-- A text put whole into an output, or not at all.
use Rattle.std.specs.Prelude.{◌≡◌, ℕ, ◌<◌, ◌≤◌, List, ◌++◌, length, drop, Some, None, Option}

-- The answer is the text's length, and the text stands at the front of the output; or there is none, since the
-- output is shorter, and that is as it was.
abbrev pub Fitted : List ℕ → List ℕ → Option ℕ → List ℕ → Type 0
Fitted text before (Some n) after = (n ≡ length text) × (n ≤ length before) × (after ≡ text ++ drop n before)
Fitted text before None after = (length before < length text) × (after ≡ before)
