-- Texts as 16-bit units. `encode_utf16` of the library is UTF16EncodeCodePoint of ECMA-262, 11.1.1.
use Rattle.std.specs.Prelude.{◌≡◌, ℕ, ◌+◌, ◌*◌, ◌<◌, ◌≤◌, cond, ◌≢◌, List, [], ◌∷◌, ◌++◌, Some, None, Option, ◌==◌}
use Rattle.std.proofs.Math.Utf8.{encode}
use Rattle.std.specs.Char.{digit_value}
use Rattle.std.specs.Char.Escape.{encode_utf16}

-- The UTF-8 text s is the character c, and then t.
abbrev pub Begins : List ℕ → ℕ → List ℕ → Type 0
Begins s c t = s ≡ encode c ++ t

-- A text as its units.
pub data Spelt : List ℕ → List ℕ → Type 0 where
  end : Spelt [] []
  char : (c : ℕ) (s m us : List ℕ) → Begins s c m → Spelt m us → Spelt s (encode_utf16 c ++ us)

-- A hexadecimal digit of the value d, and then t.
pub record Hex (s : List ℕ) (d : ℕ) (t : List ℕ) : Type 0 where
  pub digit : ℕ
  pub stands : Begins s digit t
  pub small : digit_value digit < 16
  pub worth : d ≡ digit_value digit

-- Four hexadecimal digits of the value u, and then t.
pub record HexUnit (s : List ℕ) (u : ℕ) (t : List ℕ) : Type 0 where
  pub a : ℕ
  pub b : ℕ
  pub c : ℕ
  pub d : ℕ
  pub after_a : List ℕ
  pub after_b : List ℕ
  pub after_c : List ℕ
  pub first : Hex s a after_a
  pub second : Hex after_a b after_b
  pub third : Hex after_b c after_c
  pub fourth : Hex after_c d t
  pub worth : u ≡ a * 4096 + b * 256 + c * 16 + d

-- ECMA-404, 9, String: the escapes of one character after the backslash, `"`, `\`, `/`, b, f, n, r and t
abbrev pub short_escape : ℕ → Option ℕ
short_escape c =
    cond (c == 34) (Some 34)
    (cond (c == 92) (Some 92)
    (cond (c == 47) (Some 47)
    (cond (c == 98) (Some 8)
    (cond (c == 102) (Some 12)
    (cond (c == 110) (Some 10)
    (cond (c == 114) (Some 13)
    (cond (c == 116) (Some 9) None)))))))

-- After a backslash, s is an escape of the unit u, and then t.
pub data Escape : List ℕ → ℕ → List ℕ → Type 0 where
  short : (c u : ℕ) (s t : List ℕ) → Begins s c t → short_escape c ≡ Some u → Escape s u t
  long : (u : ℕ) (s m t : List ℕ) → Begins s 117 m → HexUnit m u t → Escape s u t

-- After the opening quote, s is a JSON string of these units with its closing quote, and then t.
pub data Json : List ℕ → List ℕ → List ℕ → Type 0 where
  close : (s t : List ℕ) → Begins s 34 t → Json s [] t
  plain : (c : ℕ) (s m us t : List ℕ) → Begins s c m → 32 ≤ c → c ≢ 34 → c ≢ 92 → Json m us t → Json s (encode_utf16 c ++ us) t
  escaped : (u : ℕ) (s m n us t : List ℕ) → Begins s 92 m → Escape m u n → Json n us t → Json s (u ∷ us) t
