-- Names and keywords (ECMA-262, 12.7), on texts of ASCII letters. A text is a list of 16-bit units.
use Rattle.std.specs.Prelude.{ℕ, Bool, false, not, ◌&&◌, ◌||◌, List, [], ◌∷◌, length, codes, ◌==◌, nat_le}
use Rattle.std.specs.List.{list_any, list_all}
use Rattle.std.specs.Str.{bytes_eq as same}

-- whether the text is one of the words
abbrev pub among : List ℕ → List (List ℕ) → Bool
among text words = list_any (same text) words

-- 12.7.2, ReservedWord
abbrev pub reserved_words : List (List ℕ)
reserved_words =
    codes "await" ∷ codes "break" ∷ codes "case" ∷ codes "catch" ∷ codes "class" ∷ codes "const" ∷ codes "continue"
    ∷ codes "debugger" ∷ codes "default" ∷ codes "delete" ∷ codes "do" ∷ codes "else" ∷ codes "enum" ∷ codes "export"
    ∷ codes "extends" ∷ codes "false" ∷ codes "finally" ∷ codes "for" ∷ codes "function" ∷ codes "if" ∷ codes "import"
    ∷ codes "in" ∷ codes "instanceof" ∷ codes "new" ∷ codes "null" ∷ codes "return" ∷ codes "super" ∷ codes "switch"
    ∷ codes "this" ∷ codes "throw" ∷ codes "true" ∷ codes "try" ∷ codes "typeof" ∷ codes "var" ∷ codes "void"
    ∷ codes "while" ∷ codes "with" ∷ codes "yield" ∷ []

unfoldable pub reserved : List ℕ → Bool
reserved text = among text reserved_words

abbrev pub between : ℕ → ℕ → ℕ → Bool
between low high unit = nat_le low unit && nat_le unit high

-- 12.7, IdentifierStartChar and IdentifierPartChar, of the ASCII ones: letters, `$` and `_`, and digits too
abbrev pub start : ℕ → Bool
start unit = between 97 122 unit || between 65 90 unit || unit == 36 || unit == 95

abbrev pub part : ℕ → Bool
part unit = start unit || between 48 57 unit

abbrev pub parts : List ℕ → Bool
parts units = list_all part units

-- 12.7, IdentifierName
abbrev pub identifier_name : List ℕ → Bool
identifier_name [] = false
identifier_name (unit ∷ units) = start unit && parts units

-- a name in a table, or of a member, has at most 64 units
abbrev pub identifier : List ℕ → Bool
identifier text = nat_le (length text) 64 && identifier_name text

-- 13.1, Identifier: an IdentifierName but not a ReservedWord
abbrev pub name : List ℕ → Bool
name text = identifier text && not (reserved text)
