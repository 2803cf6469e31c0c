-- The parts of a row that are left, and how high nodes are.
use Rattle.std.proofs.Common.{◌≡◌, ℕ, suc, ◌<◌, ◌≤◌, max, List, [], ◌∷◌, length, subst, arith}
use Rattle.units.specs.declared.span.Span.{Span}
use Rattle.nodes.specs.declared.kind.Entry.{Entry}
use Rattle.nodes.specs.Meaning.{at, nums}
use Rattle.printer.specs.Numbers.{AllBelow}

-- above the height of each of these nodes
abbrev pub above : List Entry → List ℕ → ℕ
above es [] = 0
above es (m ∷ ms) = max (suc (at es m).height) (above es ms)

module _ (es : List Entry) where
  -- of the row `all` these parts are left: they are in use, and not higher than the row
  pub record Left (all left : List (ℕ × Span)) : Type 0 where
    pub used : AllBelow (length es) (nums left)
    pub low : above es (nums left) ≤ above es (nums all)

  -- one of them is in use and lower than the row, and the others are left after it
  pub record Turn (all : List (ℕ × Span)) (part : ℕ) (rest : List (ℕ × Span)) : Type 0 where
    pub used : part < length es
    pub low : (at es part).height < above es (nums all)
    pub left : Left all rest

  pub turn : {all left rest : List (ℕ × Span)} {part : ℕ} {after : Span} → Left all left → left ≡ (part, after) ∷ rest → Turn all part rest
  turn {all} {left} {rest} {part} {after} l e =
      let k = subst (λ ps. Left all ps) e l in
      let low = k.low in
      record { used = k.used.0; low = omega arith; left = record { used = k.used.1; low = omega arith } }
