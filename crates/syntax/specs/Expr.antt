-- An expression, by itself: no node numbers, no places in a text. A text is a list of 16-bit units.
use Rattle.std.specs.Prelude.{ℕ, suc, max, Bool, false, ◌||◌, List, Float}
use Rattle.syntax.specs.Operators.{Un, Bin}

mutual
  pub data Expr : Type 0 where
    number : Float → Expr
    string : List ℕ → Expr
    boolean : Bool → Expr
    null : Expr
    name : List ℕ → Expr
    array : Expr
    unary : Un → Expr → Expr
    binary : Bin → Expr → Expr → Expr
    -- the first raw part, then each substitution with the raw part after it
    template : List ℕ → Parts → Expr
    -- the first argument of these three: whether it has an optional mark, `?.`
    member : Bool → Expr → List ℕ → Expr
    index : Bool → Expr → Expr → Expr
    call : Bool → Expr → Exprs → Expr
    chain : Expr → Expr
    -- the first part, and the others
    sequence : Expr → Exprs → Expr

  pub data Exprs : Type 0 where
    end : Exprs
    more : Expr → Exprs → Exprs

  pub data Parts : Type 0 where
    done : Parts
    part : Expr → List ℕ → Parts → Parts

-- Whether a spine, a row of members, indices and calls through object or callee, has an optional mark.
-- Such a spine belongs directly under a chain.
abbrev pub marked : Expr → Bool
marked (Expr.number x) = false
marked (Expr.string s) = false
marked (Expr.boolean b) = false
marked Expr.null = false
marked (Expr.name s) = false
marked Expr.array = false
marked (Expr.unary o e) = false
marked (Expr.binary o e f) = false
marked (Expr.template s ps) = false
marked (Expr.member m e s) = m || marked e
marked (Expr.index m e f) = m || marked e
marked (Expr.call m e es) = m || marked e
marked (Expr.chain e) = false
marked (Expr.sequence e es) = false

-- the nodes on the longest path down; a leaf has one level
abbrev mutual
  pub levels : Expr → ℕ
  levels (Expr.number x) = 1
  levels (Expr.string s) = 1
  levels (Expr.boolean b) = 1
  levels Expr.null = 1
  levels (Expr.name s) = 1
  levels Expr.array = 1
  levels (Expr.unary o e) = suc (levels e)
  levels (Expr.binary o e f) = suc (max (levels e) (levels f))
  levels (Expr.template s ps) = suc (levels_parts ps)
  levels (Expr.member m e s) = suc (levels e)
  levels (Expr.index m e f) = suc (max (levels e) (levels f))
  levels (Expr.call m e es) = suc (max (levels e) (levels_all es))
  levels (Expr.chain e) = suc (levels e)
  levels (Expr.sequence e es) = suc (max (levels e) (levels_all es))

  pub levels_all : Exprs → ℕ
  levels_all Exprs.end = 0
  levels_all (Exprs.more e es) = max (levels e) (levels_all es)

  pub levels_parts : Parts → ℕ
  levels_parts Parts.done = 0
  levels_parts (Parts.part e s ps) = max (levels e) (levels_parts ps)
