-- What a call was written as.
use Rattle.std.specs.Prelude.{◌≡◌, ℕ, ◌-◌, ◌^◌, List, Some, vec_len, codes}
use Rattle.script.specs.Arity.{Takes}
use Rattle.script.specs.Numbers.{counted_to}
use Rattle.script.specs.Places.{IsClassInSource}
use Rattle.script.specs.Words.{first_word}
use Rattle.script.specs.declared.calls.Call.{Call}
use Rattle.script.specs.declared.calls.Call.TheVariants as C

-- The call by its first word, and what is after that.
abbrev pub Says : List ℕ → List ℕ → Call → Type 0
Says verb s (C.Open entries folded writer source) = verb ≡ codes "open"
Says verb s (C.Name text class) = (verb ≡ codes "name") × IsClassInSource class
Says verb s (C.Build build) = (verb ≡ codes "build") × Takes build.shape (vec_len build.parts)
Says verb s (C.Root n) = (verb ≡ codes "root") × (counted_to (2 ^ 16 - 1) (first_word s) ≡ Some n)
Says verb s (C.Read n) = (verb ≡ codes "read") × (counted_to (2 ^ 16 - 1) (first_word s) ≡ Some n)
Says verb s (C.Print n) = (verb ≡ codes "print") × (counted_to (2 ^ 64 - 1) (first_word s) ≡ Some n)
