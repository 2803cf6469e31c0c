-- A shape with as many parts as fit it makes an expression.
use Rattle.std.proofs.Common.{◌≡◌, ℕ, suc, ◌≤◌, Bool, true, ◌&&◌, eqb, leb, List, [], ◌∷◌, length, is_some, Some, None, Option, refl, ap, arith}
use Rattle.std.specs.Option.{option_map}
use Rattle.std.proofs.lemmas.Bool.{and_parts, and_from, eqb-true, leb-true, le-leb}
use Rattle.syntax.specs.Operators.{Un, Bin, unary_of, binary_of}
use Rattle.syntax.specs.Expr.{Expr}
use Rattle.nodes.specs.declared.kind.Entry.{Entry}
use Rattle.nodes.specs.declared.shape.Part.{Part}
use Rattle.nodes.specs.declared.shape.Shape.{Shape}
use Rattle.nodes.specs.declared.shape.Shape.TheVariants as S
use Rattle.nodes.specs.Meaning.{Texts, units_of, name_of}
use Rattle.nodes.specs.Made.{given, exprs, substitutions, none, one, two, some, when, made, count_fits}

abbrev Given : Type 0
Given = List (Expr × List ℕ)

abbrev Is : Option Expr → Type 0
Is o = (e : Expr) × (o ≡ Some e)

by_none : (xs : Given) (x : Expr) → eqb (length xs) 0 ≡ true → Is (none xs x)
by_none [] x h = (x, refl)
by_none (y ∷ ys) x h = let l = eqb-true (length (y ∷ ys)) 0 h in absurd (omega arith)

by_one : (xs : Given) (f : Expr → Option Expr) → ((x : Expr) → Is (f x)) → length xs ≡ 1 → Is (one xs f)
by_one [] f k h = absurd (omega arith)
by_one (x ∷ []) f k h = k x.0
by_one (x ∷ (y ∷ ys)) f k h = absurd (omega arith)

by_two : (xs : Given) (f : Expr → Expr → Option Expr) → ((x y : Expr) → Is (f x y)) → length xs ≡ 2 → Is (two xs f)
by_two [] f k h = absurd (omega arith)
by_two (x ∷ []) f k h = absurd (omega arith)
by_two (x ∷ (y ∷ [])) f k h = k x.0 y.0
by_two (x ∷ (y ∷ (z ∷ zs))) f k h = absurd (omega arith)

by_some : (xs : Given) (f : Expr → Given → Option Expr) → ((x : Expr) (ys : Given) → suc (length ys) ≡ length xs → Is (f x ys)) → 1 ≤ length xs → Is (some xs f)
by_some [] f k h = absurd (omega arith)
by_some (x ∷ xs) f k h = k x.0 xs refl

by_when : (b : Bool) (x : Expr) → b ≡ true → Is (when b x)
by_when b x h = (x, rw h refl)

by_unary : (o : Option Un) (x : Expr) → is_some o ≡ true → Is (option_map (λ u. Expr.unary u x) o)
by_unary None x h = let z : ◌≡◌ {A = ℕ} 0 1 = cc in absurd (omega arith)
by_unary (Some u) x h = (Expr.unary u x, refl)

by_binary : (o : Option Bin) (x y : Expr) → is_some o ≡ true → Is (option_map (λ u. Expr.binary u x y) o)
by_binary None x y h = let z : ◌≡◌ {A = ℕ} 0 1 = cc in absurd (omega arith)
by_binary (Some u) x y h = (Expr.binary u x y, refl)

made_is : (t : Texts) (sh : Shape) (xs : Given) → count_fits sh (length xs) ≡ true → Is (made t sh xs)
made_is t (S.Number x) xs h = by_none xs (Expr.number x) h
made_is t (S.String s) xs h = by_none xs (Expr.string (units_of t s)) h
made_is t (S.Boolean b) xs h = by_none xs (Expr.boolean b) h
made_is t S.Null xs h = by_none xs Expr.null h
made_is t (S.Name i) xs h = by_none xs (Expr.name (name_of t i)) h
made_is t S.EmptyArray xs h = by_none xs Expr.array h
made_is t (S.Unary o) xs h = let w = and_parts (eqb (length xs) 1) (is_some (unary_of o)) h in by_one xs _ (λ x. by_unary (unary_of o) x w.1) (eqb-true (length xs) 1 w.0)
made_is t (S.Binary o) xs h = let w = and_parts (eqb (length xs) 2) (is_some (binary_of o)) h in by_two xs _ (λ x y. by_binary (binary_of o) x y w.1) (eqb-true (length xs) 2 w.0)
made_is t (S.Template s) xs h = by_when (leb (length xs) 64) (Expr.template (units_of t s) (substitutions xs)) h
made_is t (S.Member s m) xs h = by_one xs _ (λ x. (Expr.member m x (units_of t s), refl)) (eqb-true (length xs) 1 h)
made_is t (S.Index m) xs h = by_two xs _ (λ x y. (Expr.index m x y, refl)) (eqb-true (length xs) 2 h)
made_is t (S.Call m) xs h =
    let w = and_parts (leb 1 (length xs)) (leb (length xs) 9) h in
    let a = leb-true 1 (length xs) w.0 in let b = leb-true (length xs) 9 w.1 in
    by_some xs _ (λ x ys e. by_when (leb (length ys) 8) (Expr.call m x (exprs ys)) (le-leb (length ys) 8 (omega arith))) a
made_is t S.Chain xs h = by_one xs _ (λ x. (Expr.chain x, refl)) (eqb-true (length xs) 1 h)
made_is t S.Sequence xs h =
    let w = and_parts (leb 2 (length xs)) (leb (length xs) 8) h in
    let a = leb-true 2 (length xs) w.0 in let b = leb-true (length xs) 8 w.1 in
    by_some xs _ (λ x ys e. by_when (leb 1 (length ys) && leb (length ys) 7) (Expr.sequence x (exprs ys)) (and_from (leb 1 (length ys)) (leb (length ys) 7) (le-leb 1 (length ys) (omega arith)) (le-leb (length ys) 7 (omega arith)))) (omega arith)

length-given : (t : Texts) (es : List Entry) (ps : List Part) → length (given t es ps) ≡ length ps
length-given t es [] = refl
length-given t es (p ∷ ps) = ap suc (length-given t es ps)

pub makes : (t : Texts) (es : List Entry) (sh : Shape) (ps : List Part) → count_fits sh (length ps) ≡ true → (e : Expr) × (made t sh (given t es ps) ≡ Some e)
makes t es sh ps h = made_is t sh (given t es ps) (rw (length-given t es ps) h)
