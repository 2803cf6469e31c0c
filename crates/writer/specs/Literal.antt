-- ECMA-262, 12.9.3 Numeric Literals: a DecimalIntegerLiteral, with or without an ExponentPart of `e` and digits with no sign, and its MV.
use Rattle.std.specs.Prelude.{ℕ, ◌+◌, ◌-◌, ◌*◌, ◌^◌, Bool, true, cond, ◌&&◌, List, [], ◌∷◌, Some, None, Option, ◌==◌, nat_le}

abbrev pub all_digits : List ℕ → Bool
all_digits [] = true
all_digits (c ∷ cs) = nat_le 48 c && nat_le c 57 && all_digits cs

-- the MV of digits that follow digits of MV n
abbrev pub read_on : ℕ → List ℕ → ℕ
read_on n [] = n
read_on n (c ∷ cs) = read_on (n * 10 + (c - 48)) cs

-- DecimalDigits: one digit or more
abbrev pub decimal_digits : List ℕ → Option ℕ
decimal_digits [] = None
decimal_digits (c ∷ cs) = cond (all_digits (c ∷ cs)) (Some (read_on 0 (c ∷ cs))) None

-- DecimalIntegerLiteral: `0`, or digits of which the first is not 0
abbrev pub decimal_integer : List ℕ → Option ℕ
decimal_integer [] = None
decimal_integer (c ∷ []) = decimal_digits (c ∷ [])
decimal_integer (c ∷ d ∷ ds) = cond (c == 48) None (decimal_digits (c ∷ d ∷ ds))

-- what stands before the first `e` of a text, and what stands after it
abbrev pub before_e : List ℕ → List ℕ
before_e [] = []
before_e (c ∷ cs) = cond (c == 101) [] (c ∷ before_e cs)

abbrev pub after_e : List ℕ → Option (List ℕ)
after_e [] = None
after_e (c ∷ cs) = cond (c == 101) (Some cs) (after_e cs)

-- the MV of the ExponentPart, and 0 where there is none
abbrev pub exponent : Option (List ℕ) → Option ℕ
exponent None = Some 0
exponent (Some ds) = decimal_digits ds

abbrev pub scaled : Option ℕ → Option ℕ → Option ℕ
scaled None k = None
scaled (Some n) None = None
scaled (Some n) (Some k) = Some (n * 10 ^ k)

-- the MV of a text that is such a literal
unfoldable pub literal : List ℕ → Option ℕ
literal t = scaled (decimal_integer (before_e t)) (exponent (after_e t))
