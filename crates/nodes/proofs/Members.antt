-- Membership, as a test and as a sum.
use Rattle.std.proofs.Common.{◌≡◌, ℕ, true, not, eqb, ◌⊎◌, List, [], ◌∷◌, ◌++◌, inl, inr, ⊎_elim, arith}
use Rattle.std.proofs.lemmas.Bool.{eqb-true, eq-eqb, or_cases, or_left, or_right, not-true, and_parts, both_ways}
use Rattle.nodes.specs.Meaning.{has, distinct}

abbrev pub In : ℕ → List ℕ → Type 0
In x [] = ⊥
In x (y ∷ ys) = (x ≡ y) ⊎ In x ys

abbrev pub Once : List ℕ → Type 0
Once [] = Unit {0}
Once (x ∷ xs) = (In x xs → ⊥) × Once xs

pub in-has : (x : ℕ) (ys : List ℕ) → In x ys → has x ys ≡ true
in-has x [] i = absurd i
in-has x (y ∷ ys) (inl e) = or_left (eqb x y) (has x ys) (eq-eqb x y e)
in-has x (y ∷ ys) (inr i) = or_right (eqb x y) (has x ys) (in-has x ys i)

pub has_in : (x : ℕ) (ys : List ℕ) → has x ys ≡ true → In x ys
has_in x [] h = let z : ◌≡◌ {A = ℕ} 0 1 = cc in absurd (omega arith)
has_in x (y ∷ ys) h = ⊎_elim (λ e. inl (eqb-true x y e)) (λ i. inr (has_in x ys i)) (or_cases (eqb x y) (has x ys) h)

pub once_distinct : (xs : List ℕ) → distinct xs ≡ true → Once xs
once_distinct [] d = tt
once_distinct (x ∷ xs) d =
    let w = and_parts (not (has x xs)) (distinct xs) d in
    (λ i. both_ways (has x xs) (not-true (has x xs) w.0) (in-has x xs i), once_distinct xs w.1)

pub in_right : (x : ℕ) (xs ys : List ℕ) → In x ys → In x (xs ++ ys)
in_right x [] ys i = i
in_right x (y ∷ xs) ys i = inr (in_right x xs ys i)
