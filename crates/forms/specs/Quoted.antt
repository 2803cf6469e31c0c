-- The string literal of a text, ECMA-262, 12.9.4, String Literals. A lone surrogate has no UTF-8, so it is escaped;
-- the line and paragraph separators may stand for themselves.
use Rattle.std.specs.Prelude.{ℕ, ◌/◌, ◌%◌, cond, ◌||◌, List, [], ◌∷◌, ◌++◌, codes, ◌==◌}
use Rattle.std.specs.Char.{digit_char}
use Rattle.units.specs.CodePoints.{code_points, is_lead, is_trail}

-- a UnicodeEscapeSequence of four hexadecimal digits
abbrev pub hex_escape : ℕ → List ℕ
hex_escape c =
    codes "\\u" ++ (digit_char (c / 0x1000) ∷ digit_char (c / 0x100 % 0x10) ∷ digit_char (c / 0x10 % 0x10) ∷ digit_char (c % 0x10) ∷ [])

abbrev pub escape : ℕ → List ℕ
escape c =
    cond (c == 0x22) (codes "\\\"") (cond (c == 0x5C) (codes "\\\\") (cond (c == 0x0A) (codes "\\n") (cond (c == 0x0D) (codes "\\r") (cond (is_lead c || is_trail c) (hex_escape c) (c ∷ [])))))

abbrev pub escapes : List ℕ → List ℕ
escapes [] = []
escapes (c ∷ cs) = escape c ++ escapes cs

abbrev pub quoted : List ℕ → List ℕ
quoted units = codes "\"" ++ escapes (code_points units) ++ codes "\""
