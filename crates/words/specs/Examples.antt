-- Worked examples of the tests on words. `let`, `static`, `async` and `of` are reserved in strict code or in some places alone, and `undefined` is a name.
use Rattle.std.specs.Prelude.{◌≡◌, true, false, [], replicate, codes}
use Rattle.words.specs.Words.{reserved, identifier, name}

unfoldable pub Examples : Type 0
Examples =
    (reserved (codes "await") ≡ true) × (reserved (codes "instanceof") ≡ true) × (reserved (codes "yield") ≡ true)
    × (reserved (codes "instance") ≡ false) × (reserved (codes "inn") ≡ false) × (reserved (codes "Do") ≡ false) × (reserved [] ≡ false)
    × (name (codes "let") ≡ true) × (name (codes "static") ≡ true) × (name (codes "async") ≡ true)
    × (name (codes "of") ≡ true) × (name (codes "undefined") ≡ true) × (name (codes "null") ≡ false)
    × (name (codes "$") ≡ true) × (name (codes "_1") ≡ true) × (identifier (codes "typeof") ≡ true)
    × (identifier (codes "1a") ≡ false) × (identifier (codes "a-b") ≡ false) × (identifier [] ≡ false)
    × (identifier (replicate 64 97) ≡ true) × (identifier (replicate 65 97) ≡ false)
