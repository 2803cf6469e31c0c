-- The words that write the operators.
use Rattle.std.specs.Prelude.{◌≡◌, ℕ, ◌⊎◌, List, codes, Result, MatchOption, MatchResult}
use Rattle.syntax.specs.Operators.{unary_of, binary_of, un_text, bin_text}
use Rattle.syntax.specs.declared.operators.UnaryOperator.{UnaryOperator}
use Rattle.syntax.specs.declared.operators.BinaryOperator.{BinaryOperator}
use Rattle.syntax.specs.declared.operators.BinaryOperator.TheVariants as B

-- The word writes the operator. Beside those of a tree there is `delete`.
abbrev pub UnaryWord : List ℕ → UnaryOperator → Type 0
UnaryWord w o = MatchOption (unary_of o) (w ≡ codes "delete") (λ u. w ≡ un_text u)

-- Beside those of a tree there are `in` and `instanceof`.
abbrev pub BinaryWord : List ℕ → BinaryOperator → Type 0
BinaryWord w o =
    MatchOption (binary_of o)
    (((o ≡ B.In) × (w ≡ codes "in")) ⊎ ((o ≡ B.Instanceof) × (w ≡ codes "instanceof")))
    (λ b. w ≡ bin_text b)

-- What is read is what the word writes, and where nothing is read it writes nothing.
abbrev pub Reads : {X E : Type 0} → (List ℕ → X → Type 0) → List ℕ → Result X E → Type 0
Reads Writes w r = MatchResult r (λ o. Writes w o) (λ _. (o : _) → Writes w o → ⊥)
