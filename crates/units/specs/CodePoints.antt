-- Code units and code points, ECMA-262.
use Rattle.std.specs.Prelude.{◌≡◌, ℕ, ◌+◌, ◌-◌, ◌*◌, ◌<◌, ◌≤◌, Bool, cond, ◌&&◌, List, [], ◌∷◌, length, drop, Option, IfSome, nat_le}
use Rattle.std.specs.Iterator.{YieldsFirst}
use Rattle.units.specs.declared.code_point.CodePoints.{CodePoints}

-- 6.1.4: the leading and the trailing surrogates
abbrev pub is_lead : ℕ → Bool
is_lead u = nat_le 0xD800 u && nat_le u 0xDBFF

abbrev pub is_trail : ℕ → Bool
is_trail u = nat_le 0xDC00 u && nat_le u 0xDFFF

-- 11.1.3: UTF16SurrogatePairToCodePoint
abbrev pub pair_to_code_point : ℕ → ℕ → ℕ
pair_to_code_point lead trail = (lead - 0xD800) * 0x400 + (trail - 0xDC00) + 0x10000

-- 11.1.5: StringToCodePoints. A unit that is no half of a pair is a code point by itself.
abbrev pub code_points : List ℕ → List ℕ
code_points [] = []
code_points (u ∷ []) = u ∷ []
code_points (u ∷ v ∷ us) = cond (is_lead u && is_trail v) (pair_to_code_point u v ∷ code_points us) (u ∷ code_points (v ∷ us))

-- 11.1.4: CodePointAt. At `at` stands the code point `value`, and `units` units spell it.
pub record PointAt (us : List ℕ) (at value units : ℕ) : Type 0 where
  pub front : code_points (drop at us) ≡ value ∷ code_points (drop (at + units) us)
  pub some : 1 ≤ units
  pub inside : at + units ≤ length us
  pub bound : value < 0x110000

-- ---- an iterator over the code points of a text

abbrev pub code_points_left : CodePoints → List ℕ
code_points_left it = code_points it.rest.now

-- a call of `next` gives the first of those that are left, which is a code point of Unicode
abbrev pub GivesCodePoint : CodePoints → Option ℕ → CodePoints → Type 0
GivesCodePoint before point after =
    YieldsFirst code_points_left before point after × IfSome point (λ c. c < 0x110000)
