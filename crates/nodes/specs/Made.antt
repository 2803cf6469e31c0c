-- A new node: what it stands for, and what makes a shape and its parts fit each other.
use Rattle.std.specs.Prelude.{ℕ, max, Bool, true, false, cond, not, ◌&&◌, List, [], ◌∷◌, length, is_some, Some, None, Option, ◌==◌, nat_le, nat_lt}
use Rattle.std.specs.Option.{option_map}
use Rattle.syntax.specs.Operators.{unary_of, binary_of}
use Rattle.syntax.specs.Expr.{Expr, Exprs, Parts, marked, levels}
use Rattle.nodes.specs.declared.kind.Entry.{Entry}
use Rattle.nodes.specs.declared.shape.Part.{Part}
use Rattle.nodes.specs.declared.shape.Shape.{Shape}
use Rattle.nodes.specs.declared.shape.Shape.TheVariants as S
use Rattle.nodes.specs.Meaning.{Texts, units_of, name_of, at, has, expr}

-- what the parts stand for, each with the raw text after it
abbrev pub given : Texts → List Entry → List Part → List (Expr × List ℕ)
given t es [] = []
given t es (p ∷ ps) = (expr t es p.node, units_of t p.after) ∷ given t es ps

abbrev pub exprs : List (Expr × List ℕ) → Exprs
exprs [] = Exprs.end
exprs (x ∷ xs) = Exprs.more x.0 (exprs xs)

abbrev pub substitutions : List (Expr × List ℕ) → Parts
substitutions [] = Parts.done
substitutions (x ∷ xs) = Parts.part x.0 x.1 (substitutions xs)

abbrev pub none : List (Expr × List ℕ) → Expr → Option Expr
none [] e = Some e
none (x ∷ xs) e = None

abbrev pub one : List (Expr × List ℕ) → (Expr → Option Expr) → Option Expr
one [] f = None
one (x ∷ []) f = f x.0
one (x ∷ (y ∷ ys)) f = None

abbrev pub two : List (Expr × List ℕ) → (Expr → Expr → Option Expr) → Option Expr
two [] f = None
two (x ∷ []) f = None
two (x ∷ (y ∷ [])) f = f x.0 y.0
two (x ∷ (y ∷ (z ∷ zs))) f = None

-- one at least
abbrev pub some : List (Expr × List ℕ) → (Expr → List (Expr × List ℕ) → Option Expr) → Option Expr
some [] f = None
some (x ∷ xs) f = f x.0 xs

abbrev pub when : Bool → Expr → Option Expr
when b e = cond b (Some e) None

-- The expression of a shape over its parts; none where their number or the operator is bad.
-- A call has at most 8 arguments, a sequence 2 to 8 parts, a template at most 64 substitutions.
abbrev pub made : Texts → Shape → List (Expr × List ℕ) → Option Expr
made t (S.Number x) xs = none xs (Expr.number x)
made t (S.String s) xs = none xs (Expr.string (units_of t s))
made t (S.Boolean b) xs = none xs (Expr.boolean b)
made t S.Null xs = none xs Expr.null
made t (S.Name i) xs = none xs (Expr.name (name_of t i))
made t S.EmptyArray xs = none xs Expr.array
made t (S.Unary o) xs = one xs (λ e. option_map (λ u. Expr.unary u e) (unary_of o))
made t (S.Binary o) xs = two xs (λ e f. option_map (λ b. Expr.binary b e f) (binary_of o))
made t (S.Template s) xs = when (nat_le (length xs) 64) (Expr.template (units_of t s) (substitutions xs))
made t (S.Member s m) xs = one xs (λ e. Some (Expr.member m e (units_of t s)))
made t (S.Index m) xs = two xs (λ e f. Some (Expr.index m e f))
made t (S.Call m) xs = some xs (λ e ys. when (nat_le (length ys) 8) (Expr.call m e (exprs ys)))
made t S.Chain xs = one xs (λ e. Some (Expr.chain e))
made t S.Sequence xs = some xs (λ e ys. when (nat_le 1 (length ys) && nat_le (length ys) 7) (Expr.sequence e (exprs ys)))

-- the same, by the number of the parts
abbrev pub count_fits : Shape → ℕ → Bool
count_fits (S.Number x) n = n == 0
count_fits (S.String s) n = n == 0
count_fits (S.Boolean b) n = n == 0
count_fits S.Null n = n == 0
count_fits (S.Name i) n = n == 0
count_fits S.EmptyArray n = n == 0
count_fits (S.Unary o) n = n == 1 && is_some (unary_of o)
count_fits (S.Binary o) n = n == 2 && is_some (binary_of o)
count_fits (S.Template s) n = nat_le n 64
count_fits (S.Member s m) n = n == 1
count_fits (S.Index m) n = n == 2
count_fits (S.Call m) n = nat_le 1 n && nat_le n 9
count_fits S.Chain n = n == 1
count_fits S.Sequence n = nat_le 2 n && nat_le n 8

-- no part has a mark on its spine
abbrev pub unmarked : List (Expr × List ℕ) → Bool
unmarked [] = true
unmarked (x ∷ xs) = not (marked x.0) && unmarked xs

-- the first part may have one
abbrev pub unmarked_rest : List (Expr × List ℕ) → Bool
unmarked_rest [] = true
unmarked_rest (x ∷ xs) = unmarked xs

-- the first part has one
abbrev pub marked_first : List (Expr × List ℕ) → Bool
marked_first [] = false
marked_first (x ∷ xs) = marked x.0

-- A marked spine stands only as object, as callee and as what a chain holds, and a chain holds nothing else.
abbrev pub marks_fit : Shape → List (Expr × List ℕ) → Bool
marks_fit (S.Number x) xs = unmarked xs
marks_fit (S.String s) xs = unmarked xs
marks_fit (S.Boolean b) xs = unmarked xs
marks_fit S.Null xs = unmarked xs
marks_fit (S.Name i) xs = unmarked xs
marks_fit S.EmptyArray xs = unmarked xs
marks_fit (S.Unary o) xs = unmarked xs
marks_fit (S.Binary o) xs = unmarked xs
marks_fit (S.Template s) xs = unmarked xs
marks_fit (S.Member s m) xs = unmarked_rest xs
marks_fit (S.Index m) xs = unmarked_rest xs
marks_fit (S.Call m) xs = unmarked_rest xs
marks_fit S.Chain xs = marked_first xs
marks_fit S.Sequence xs = unmarked xs

-- the most levels of a part
abbrev pub deepest : List (Expr × List ℕ) → ℕ
deepest [] = 0
deepest (x ∷ xs) = max (levels x.0) (deepest xs)

-- the nodes of the parts
abbrev pub nodes : List Part → List ℕ
nodes [] = []
nodes (p ∷ ps) = p.node ∷ nodes ps

-- a node that is no part of another
abbrev pub loose : List Entry → ℕ → Bool
loose es n = nat_lt n (length es) && not (is_some (at es n).parent)

-- nodes that may become the parts of a new one: there, no parts yet, and none given twice
abbrev pub free : List Entry → List Part → Bool
free es [] = true
free es (p ∷ ps) = loose es p.node && (not (has p.node (nodes ps)) && free es ps)
