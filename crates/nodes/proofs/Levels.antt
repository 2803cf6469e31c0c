-- The levels of what a shape makes, and the heights that stand for levels.
use Rattle.std.proofs.Common.{◌≡◌, ℕ, suc, ◌*◌, ◌<◌, ◌≤◌, max, ◌&&◌, leb, List, [], ◌∷◌, length, Some, None, Option, sym, refl, ap, ◌∙◌, inl, inr, ⊎_elim, arith}
use native.Mathlib.Nat.{max-zero, le-max_left, le-max_right, max-eq_left, max-eq_right}
use Rattle.std.specs.Option.{option_map}
use Rattle.std.proofs.lemmas.Bool.{cases_lt}
use Rattle.syntax.specs.Operators.{Un, Bin, unary_of, binary_of}
use Rattle.syntax.specs.Expr.{Expr, levels, levels_all, levels_parts}
use Rattle.nodes.specs.declared.kind.Entry.{Entry}
use Rattle.nodes.specs.declared.shape.Part.{Part}
use Rattle.nodes.specs.declared.shape.Shape.{Shape}
use Rattle.nodes.specs.declared.shape.Shape.TheVariants as S
use Rattle.nodes.specs.Meaning.{Texts, units_of, name_of, at, expr}
use Rattle.nodes.specs.Made.{given, exprs, substitutions, none, one, two, some, made, deepest, nodes}
use Rattle.nodes.specs.Put.{tallest}
use Rattle.nodes.proofs.Members.{In}
use Rattle.nodes.proofs.Standing.{never, same, when_is}

abbrev Given : Type 0
Given = List (Expr × List ℕ)

all_deepest : (xs : Given) → levels_all (exprs xs) ≡ deepest xs
all_deepest [] = refl
all_deepest (x ∷ xs) = ap (max (levels x.0)) (all_deepest xs)

parts_deepest : (xs : Given) → levels_parts (substitutions xs) ≡ deepest xs
parts_deepest [] = refl
parts_deepest (x ∷ xs) = ap (max (levels x.0)) (parts_deepest xs)

by_none : (xs : Given) (x e : Expr) → levels x ≡ 1 → none xs x ≡ Some e → levels e ≡ suc (deepest xs)
by_none [] x e l p = ap levels (sym (same x e p)) ∙ l
by_none (y ∷ ys) x e l p = never e p

by_one : (xs : Given) (f : Expr → Option Expr) (e : Expr) → ((x : Expr) → f x ≡ Some e → levels e ≡ suc (levels x)) → one xs f ≡ Some e → levels e ≡ suc (deepest xs)
by_one [] f e k p = never e p
by_one (x ∷ []) f e k p = k x.0 p ∙ ap suc (sym (max-zero (levels x.0)))
by_one (x ∷ (y ∷ ys)) f e k p = never e p

by_two : (xs : Given) (f : Expr → Expr → Option Expr) (e : Expr) → ((x y : Expr) → f x y ≡ Some e → levels e ≡ suc (max (levels x) (levels y))) → two xs f ≡ Some e → levels e ≡ suc (deepest xs)
by_two [] f e k p = never e p
by_two (x ∷ []) f e k p = never e p
by_two (x ∷ (y ∷ [])) f e k p = k x.0 y.0 p ∙ ap (λ (n : ℕ). suc (max (levels x.0) n)) (sym (max-zero (levels y.0)))
by_two (x ∷ (y ∷ (z ∷ zs))) f e k p = never e p

by_some : (xs : Given) (f : Expr → Given → Option Expr) (e : Expr) → ((x : Expr) (ys : Given) → f x ys ≡ Some e → levels e ≡ suc (max (levels x) (deepest ys))) → some xs f ≡ Some e → levels e ≡ suc (deepest xs)
by_some [] f e k p = never e p
by_some (x ∷ xs) f e k p = k x.0 xs p

unary-levels : (o : Option Un) (x e : Expr) → option_map (λ u. Expr.unary u x) o ≡ Some e → levels e ≡ suc (levels x)
unary-levels None x e p = never e p
unary-levels (Some u) x e p = ap levels (sym (same (Expr.unary u x) e p))

binary-levels : (o : Option Bin) (x y e : Expr) → option_map (λ u. Expr.binary u x y) o ≡ Some e → levels e ≡ suc (max (levels x) (levels y))
binary-levels None x y e p = never e p
binary-levels (Some u) x y e p = ap levels (sym (same (Expr.binary u x y) e p))

pub made-levels : (t : Texts) (sh : Shape) (xs : Given) (e : Expr) → made t sh xs ≡ Some e → levels e ≡ suc (deepest xs)
made-levels t (S.Number x) xs e p = by_none xs (Expr.number x) e refl p
made-levels t (S.String s) xs e p = by_none xs (Expr.string (units_of t s)) e refl p
made-levels t (S.Boolean b) xs e p = by_none xs (Expr.boolean b) e refl p
made-levels t S.Null xs e p = by_none xs Expr.null e refl p
made-levels t (S.Name i) xs e p = by_none xs (Expr.name (name_of t i)) e refl p
made-levels t S.EmptyArray xs e p = by_none xs Expr.array e refl p
made-levels t (S.Unary o) xs e p = by_one xs _ e (λ x q. unary-levels (unary_of o) x e q) p
made-levels t (S.Binary o) xs e p = by_two xs _ e (λ x y q. binary-levels (binary_of o) x y e q) p
made-levels t (S.Template s) xs e p = ap levels (sym (when_is (leb (length xs) 64) (Expr.template (units_of t s) (substitutions xs)) e p)) ∙ ap suc (parts_deepest xs)
made-levels t (S.Member s m) xs e p = by_one xs _ e (λ x q. ap levels (sym (same (Expr.member m x (units_of t s)) e q))) p
made-levels t (S.Index m) xs e p = by_two xs _ e (λ x y q. ap levels (sym (same (Expr.index m x y) e q))) p
made-levels t (S.Call m) xs e p = by_some xs _ e (λ x ys q. ap levels (sym (when_is (leb (length ys) 8) (Expr.call m x (exprs ys)) e q)) ∙ ap (λ (n : ℕ). suc (max (levels x) n)) (all_deepest ys)) p
made-levels t S.Chain xs e p = by_one xs _ e (λ x q. ap levels (sym (same (Expr.chain x) e q))) p
made-levels t S.Sequence xs e p = by_some xs _ e (λ x ys q. ap levels (sym (when_is (leb 1 (length ys) && leb (length ys) 7) (Expr.sequence x (exprs ys)) e q)) ∙ ap (λ (n : ℕ). suc (max (levels x) n)) (all_deepest ys)) p

max_times : (c a b : ℕ) → max (c * a) (c * b) ≡ c * max a b
max_times c a b =
    ⊎_elim
    (λ (l : a < b). max-eq_right (mul_le c a b (omega arith)) ∙ ap (λ (n : ℕ). c * n) (sym (max-eq_right (le_of a b l))))
    (λ (l : b ≤ a). max-eq_left (mul_le c b a l) ∙ ap (λ (n : ℕ). c * n) (sym (max-eq_left l)))
    (cases_lt a b)
  where
    le_of : (a b : ℕ) → a < b → a ≤ b
    le_of a b l = omega arith

    mul_le : (c a b : ℕ) → a ≤ b → c * a ≤ c * b
    mul_le c a b l = native.Mathlib.Nat.mul-le-mul_left c l

-- where each part's height is c times its levels, so is the tallest's
pub tallest-deepest : (c : ℕ) (t : Texts) (es : List Entry) (ps : List Part) → ((x : ℕ) → In x (nodes ps) → (at es x).height ≡ c * levels (expr t es x)) → tallest es ps ≡ c * deepest (given t es ps)
tallest-deepest c t es [] e = omega arith
tallest-deepest c t es (p ∷ ps) e = rw (e p.node (inl refl), tallest-deepest c t es ps (λ x i. e x (inr i))) (max_times c (levels (expr t es p.node)) (deepest (given t es ps)))

-- no part is higher than the tallest
pub below_tallest : (es : List Entry) (ps : List Part) (x : ℕ) → In x (nodes ps) → (at es x).height ≤ tallest es ps
below_tallest es [] x i = absurd i
below_tallest es (p ∷ ps) x (inl e) = rw e (le-max_left (at es p.node).height (tallest es ps))
below_tallest es (p ∷ ps) x (inr i) = let a = below_tallest es ps x i in let b = le-max_right (at es p.node).height (tallest es ps) in omega arith
