-- The names' table of a tree: what is said of each name that its expressions may use.
use Rattle.std.specs.Prelude.{ℕ, Bool, List, Float}

-- the value of a constant
pub data Constant : Type 0 where
  number : Float → Constant
  string : List ℕ → Constant
  boolean : Bool → Constant
  null undefined : Constant

-- A free name is the page's, a bound one a variable that the expression's surroundings declare.
-- A constant has a value, and says whether a fold may put the value in its place.
pub data Standing : Type 0 where
  free bound : Standing
  constant : Constant → Bool → Standing

pub record Listing : Type 0 where
  pub text : List ℕ
  pub standing : Standing
