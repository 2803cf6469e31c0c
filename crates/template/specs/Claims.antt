-- What the public functions promise.
use Rattle.std.specs.Prelude.{◌≡◌, ℕ, ◌<◌, List, length, take, drop, Some, None, Option}
use Rattle.template.specs.Raw.{Raw}

abbrev pub RawPart : List ℕ → Type 0
RawPart raw = (cooked : List ℕ) × Raw raw cooked

abbrev pub NoRawPart : List ℕ → Type 0
NoRawPart raw = (cooked : List ℕ) → Raw raw cooked → ⊥

-- a raw part has one cooked text
abbrev pub CookedOnce : Type 0
CookedOnce = (raw cooked other : List ℕ) → Raw raw cooked → Raw raw other → cooked ≡ other

-- The cooked text of `raw` stands at the front of `after`, which held `before`.
-- Where there is none, or it is longer than that, nothing was written.
abbrev pub CookedInto : List ℕ → List ℕ → List ℕ → Option ℕ → Type 0
CookedInto raw before after (Some k) =
    Raw raw (take k after) × (length (take k after) ≡ k) × (drop k after ≡ drop k before)
CookedInto raw before after None =
    (after ≡ before) × ((cooked : List ℕ) → Raw raw cooked → length before < length cooked)
