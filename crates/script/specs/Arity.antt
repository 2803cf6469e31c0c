-- How many operands a shape takes.
use Rattle.std.specs.Prelude.{◌≡◌, ℕ, ◌≤◌}
use Rattle.std.specs.Coded.{Coded-set, coded_ℕ, le_prop, Unit-prop}
use Rattle.nodes.specs.declared.shape.Shape.{Shape}
use Rattle.nodes.specs.declared.shape.Shape.TheVariants as S

abbrev pub Takes : Shape → ℕ → Type 0
Takes (S.Number x) n = n ≡ 0
Takes (S.String p) n = n ≡ 0
Takes (S.Boolean b) n = n ≡ 0
Takes S.Null n = n ≡ 0
Takes (S.Name i) n = n ≡ 0
Takes S.EmptyArray n = n ≡ 0
Takes (S.Unary o) n = n ≡ 1
Takes (S.Binary o) n = n ≡ 2
Takes (S.Template p) n = Unit {0}
Takes (S.Member p m) n = n ≡ 1
Takes (S.Index m) n = n ≡ 2
Takes (S.Call m) n = 1 ≤ n
Takes S.Chain n = n ≡ 1
Takes S.Sequence n = 2 ≤ n

-- that is a mere fact, as a field's has to be
pub Takes-prop : (shape : Shape) (n : ℕ) → IsProp (Takes shape n)
Takes-prop (S.Number x) n = Coded-set coded_ℕ n 0
Takes-prop (S.String p) n = Coded-set coded_ℕ n 0
Takes-prop (S.Boolean b) n = Coded-set coded_ℕ n 0
Takes-prop S.Null n = Coded-set coded_ℕ n 0
Takes-prop (S.Name i) n = Coded-set coded_ℕ n 0
Takes-prop S.EmptyArray n = Coded-set coded_ℕ n 0
Takes-prop (S.Unary o) n = Coded-set coded_ℕ n 1
Takes-prop (S.Binary o) n = Coded-set coded_ℕ n 2
Takes-prop (S.Template p) n = Unit-prop
Takes-prop (S.Member p m) n = Coded-set coded_ℕ n 1
Takes-prop (S.Index m) n = Coded-set coded_ℕ n 2
Takes-prop (S.Call m) n = le_prop
Takes-prop S.Chain n = Coded-set coded_ℕ n 1
Takes-prop S.Sequence n = le_prop
