-- A list of parts, taken part by part.
use Rattle.std.proofs.Common.{◌≡◌, ℕ, max, ◌||◌, eqb, List, [], ◌∷◌, fold, sym, refl, ap, ◌∙◌, arith}
use native.Mathlib.Nat.{max-zero}
use Rattle.std.specs.List.{list_any}
use Rattle.nodes.specs.declared.kind.Entry.{Entry}
use Rattle.nodes.specs.declared.shape.Part.{Part}
use Rattle.nodes.specs.Meaning.{at, has}
use Rattle.nodes.specs.Made.{nodes}
use Rattle.nodes.specs.Put.{tallest}

pub any_node : (n : ℕ) (ps : List Part) → list_any (λ p. eqb n p.node) ps ≡ has n (nodes ps)
any_node n [] = refl
any_node n (p ∷ ps) = ap (λ b. eqb n p.node || b) (any_node n ps)

pub fold-tallest : (es : List Entry) (ps : List Part) → fold (λ h p. max h (at es p.node).height) 0 ps ≡ tallest es ps
fold-tallest es ps = from 0 ps ∙ none (tallest es ps)
  where
    none : (a : ℕ) → max 0 a ≡ a
    none a = omega arith

    assoc : (a b c : ℕ) → max (max a b) c ≡ max a (max b c)
    assoc a b c = omega arith

    from : (a : ℕ) (ps : List Part) → fold (λ h p. max h (at es p.node).height) a ps ≡ max a (tallest es ps)
    from a [] = sym (max-zero a)
    from a (p ∷ ps) = from (max a (at es p.node).height) ps ∙ assoc a (at es p.node).height (tallest es ps)
