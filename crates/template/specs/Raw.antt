-- ECMA-262, 12.9.6 Template Literal Lexical Components: the raw text between the backticks and
-- substitutions of a template, as 16-bit code units, and its cooked text (TV, 12.9.6.1).
-- Valid escapes only (no NotEscapeSequence), no carriage return, no lone surrogate.
use Rattle.std.specs.Prelude.{◌≡◌, ℕ, suc, ◌+◌, ◌-◌, ◌*◌, Bool, true, false, cond, not, ◌&&◌, ◌||◌, List, [], ◌∷◌, ◌++◌, is_some, Some, None, Option, ◌==◌, nat_eq, nat_le}
use Rattle.std.specs.Char.Escape.{encode_utf16}
use Rattle.std.specs.List.{list_any}
use Rattle.std.specs.Map.{lookup}
use Rattle.units.specs.CodePoints.{is_lead, is_trail}

abbrev pub within : ℕ → ℕ → ℕ → Bool
within low high u = nat_le low u && nat_le u high

abbrev pub one_of : ℕ → List ℕ → Bool
one_of u vs = list_any (λ v. u == v) vs

-- the text begins with a unit that passes the test
abbrev pub begins : (ℕ → Bool) → List ℕ → Bool
begins test [] = false
begins test (u ∷ us) = test u

-- 12.3 LineTerminator: LF, LS, PS, and the carriage return, which stands nowhere in a raw part
abbrev pub is_line : ℕ → Bool
is_line u = one_of u (0x0A ∷ 0x2028 ∷ 0x2029 ∷ [])

abbrev pub is_return : ℕ → Bool
is_return u = u == 0x0D

-- SourceCharacter but not one of ` or \ or $ or LineTerminator, or a LineTerminatorSequence: one unit
-- (0x60 is the backtick, 0x5C the backslash, 0x24 the dollar sign)
abbrev pub is_plain : ℕ → Bool
is_plain u = not (one_of u (0x60 ∷ 0x5C ∷ 0x24 ∷ [])) && not (is_return u || is_lead u || is_trail u)

-- 12.9.3 DecimalDigit
abbrev pub is_digit : ℕ → Bool
is_digit u = within 0x30 0x39 u

-- 12.9.3 HexDigit and its MV
abbrev pub hex_value : ℕ → Option ℕ
hex_value u =
    cond (within 0x30 0x39 u) (Some (u - 0x30))
    (cond (within 0x41 0x46 u) (Some (u - 0x37)) (cond (within 0x61 0x66 u) (Some (u - 0x57)) None))

-- 12.9.4.2, String Single Character Escape Sequences: b t n v f r " ' \
abbrev pub single_escape : ℕ → Option ℕ
single_escape u =
    lookup (λ v. u == v)
    ((0x62, 0x08) ∷ (0x74, 0x09) ∷ (0x6E, 0x0A) ∷ (0x76, 0x0B) ∷ (0x66, 0x0C) ∷ (0x72, 0x0D) ∷ (0x22, 0x22) ∷ (0x27, 0x27) ∷ (0x5C, 0x5C) ∷ [])

-- 12.9.4 EscapeCharacter: SingleEscapeCharacter, DecimalDigit, x, u
abbrev pub is_escape : ℕ → Bool
is_escape u = is_some (single_escape u) || is_digit u || one_of u (0x78 ∷ 0x75 ∷ [])

-- 12.9.4 NonEscapeCharacter: SourceCharacter but not one of EscapeCharacter or LineTerminator: one unit
abbrev pub is_non_escape : ℕ → Bool
is_non_escape u = not (is_escape u) && not (is_line u || is_return u || is_lead u || is_trail u)

-- `Hex n s v r`: the text s is n hex digits with the MV v, and then r.
-- The MV of HexDigits HexDigit is 16 times the MV of HexDigits, plus the MV of HexDigit.
pub data Hex : ℕ → List ℕ → ℕ → List ℕ → Type 0 where
  no_digit : {s : List ℕ} → Hex 0 s 0 s
  one_more : {n v u m : ℕ} {s r : List ℕ} → Hex n s v (u ∷ r) → hex_value u ≡ Some m → Hex (suc n) s (v * 16 + m) r

-- `Raw s c`: the units s are a raw part, and c is its cooked text.
pub data Raw : List ℕ → List ℕ → Type 0 where
  end : Raw [] []
  -- $ [lookahead ≠ {]
  dollar : {s c : List ℕ} → begins (λ u. nat_eq u 0x7B) s ≡ false → Raw s c → Raw (0x24 ∷ s) (0x24 ∷ c)
  -- SourceCharacter but not one of ` or \ or $ or LineTerminator; LineTerminatorSequence
  plain : {u : ℕ} {s c : List ℕ} → is_plain u ≡ true → Raw s c → Raw (u ∷ s) (u ∷ c)
  -- the same where the SourceCharacter is a surrogate pair
  pair : {u v : ℕ} {s c : List ℕ} → is_lead u ≡ true → is_trail v ≡ true → Raw s c → Raw (u ∷ v ∷ s) (u ∷ v ∷ c)
  -- LineContinuation :: \ LineTerminatorSequence: the empty String
  continuation : {u : ℕ} {s c : List ℕ} → is_line u ≡ true → Raw s c → Raw (0x5C ∷ u ∷ s) c
  -- \ SingleEscapeCharacter
  single : {u v : ℕ} {s c : List ℕ} → single_escape u ≡ Some v → Raw s c → Raw (0x5C ∷ u ∷ s) (v ∷ c)
  -- \ NonEscapeCharacter
  non_escape : {u : ℕ} {s c : List ℕ} → is_non_escape u ≡ true → Raw s c → Raw (0x5C ∷ u ∷ s) (u ∷ c)
  -- the same where the NonEscapeCharacter is a surrogate pair
  non_escape_pair : {u v : ℕ} {s c : List ℕ} → is_lead u ≡ true → is_trail v ≡ true → Raw s c →
      Raw (0x5C ∷ u ∷ v ∷ s) (u ∷ v ∷ c)
  -- \ 0 [lookahead ∉ DecimalDigit]: U+0000
  null : {s c : List ℕ} → begins is_digit s ≡ false → Raw s c → Raw (0x5C ∷ 0x30 ∷ s) (0 ∷ c)
  -- \ x HexDigit HexDigit
  hex : {v : ℕ} {s r c : List ℕ} → Hex 2 s v r → Raw r c → Raw (0x5C ∷ 0x78 ∷ s) (v ∷ c)
  -- \ u Hex4Digits
  unicode : {v : ℕ} {s r c : List ℕ} → Hex 4 s v r → Raw r c → Raw (0x5C ∷ 0x75 ∷ s) (v ∷ c)
  -- \ u { CodePoint }, CodePoint :: HexDigits but only if its MV ≤ 0x10FFFF: its UTF16EncodeCodePoint, 11.1.1
  code_point_escape : {n v : ℕ} {s r c : List ℕ} → Hex (suc n) s v (0x7D ∷ r) → nat_le v 0x10FFFF ≡ true → Raw r c →
      Raw (0x5C ∷ 0x75 ∷ 0x7B ∷ s) (encode_utf16 v ++ c)
