-- The facts behind the checks of a new node.
use Rattle.std.proofs.Common.{◌≡◌, ℕ, suc, ◌*◌, ◌<◌, ◌≤◌, Bool, true, false, List, [], ◌∷◌, length, None, Option, refl, inl, inr, arith}
use Rattle.std.specs.Bool.{MatchBool}
use Rattle.std.specs.List.{AllWithin, All, HoldsAt}
use Rattle.std.proofs.lemmas.List.Elements.{All-nil, All-cons}
use Rattle.nodes.specs.declared.kind.Entry.{Entry}
use Rattle.nodes.specs.declared.shape.Part.{Part}
use Rattle.nodes.specs.Meaning.{Texts, no_span}
use Rattle.nodes.specs.Made.{given, deepest, nodes, free}
use Rattle.nodes.specs.Put.{AllBelow, tallest}
use Rattle.nodes.proofs.Members.{In}
use Rattle.nodes.proofs.Building.{free_each}
use Rattle.nodes.proofs.Levels.{tallest-deepest}
use Rattle.tree.specs.State.{Levelled}

abbrev no_part : Part
no_part = record { node = 0; after = no_span }

-- whether each part has P, where a search for one without it came back
pub decides_all : (P : Part → Type 0) (ps : List Part) (r : Bool) → MatchBool r (AllWithin P ps 0 (length ps)) ((k : ℕ) × (k < length ps) × HoldsAt (λ p. P p → ⊥) ps k) → MatchBool r (All P ps) (All P ps → ⊥)
decides_all P ps true w = λ k d lt. w k d (omega arith) lt
decides_all P ps false w = λ all. w.2 no_part (all w.0 no_part w.1)

-- free parts are nodes
pub free_below : (es : List Entry) (ps : List Part) → free es ps ≡ true → AllBelow (length es) ps
free_below es ps fr = each ps (λ x i. (free_each es ps fr x i).0)
  where
    each : (ps : List Part) → ((x : ℕ) → In x (nodes ps) → x < length es) → AllBelow (length es) ps
    each [] low = All-nil (λ p. p.node < length es)
    each (p ∷ ps) low = All-cons (λ q. q.node < length es) p ps (low p.node (inl refl)) (each ps (λ x i. low x (inr i)))

module _ (t : Texts) (es : List Entry) (ps : List Part) (root : Option ℕ) (lv : Levelled root t es) (r : root ≡ None) (fr : free es ps ≡ true) where
  deep : tallest es ps ≡ 4 * deepest (given t es ps)
  deep = tallest-deepest 4 t es ps (λ x i. lv r x (free_each es ps fr x i).0)

  pub too_deep : 256 ≤ tallest es ps → suc (deepest (given t es ps)) ≤ 64 → ⊥
  too_deep a b = let d = deep in omega arith

  pub shallow : tallest es ps < 256 → suc (deepest (given t es ps)) ≤ 64
  shallow a = let d = deep in omega arith
