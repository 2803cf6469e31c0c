-- The kind that a shape and its parts make, and the expression that they make.
use Rattle.std.proofs.Common.{◌≡◌, ℕ, suc, Bool, true, false, ◌&&◌, leb, List, [], ◌∷◌, length, drop, Some, None, Option, sym, refl, ap, ◌∙◌, subst, inl, inr, arith}
use Rattle.std.specs.Option.{option_map}
use Rattle.units.specs.declared.span.Span.{Span}
use Rattle.syntax.specs.Operators.{Un, Bin, unary_of, binary_of}
use Rattle.syntax.specs.Expr.{Expr}
use Rattle.nodes.specs.declared.kind.Entry.{Entry}
use Rattle.nodes.specs.declared.shape.Part.{Part}
use Rattle.nodes.specs.declared.shape.Shape.{Shape}
use Rattle.nodes.specs.declared.shape.Shape.TheVariants as S
use Rattle.nodes.specs.Meaning.{Texts, units_of, name_of, at, links, links_of, nums, kids_of, exprs_of, parts_of, unary_by, binary_by, mean, expr}
use Rattle.nodes.specs.Made.{given, exprs, substitutions, none, one, two, some, when, made, nodes}
use Rattle.nodes.specs.Put.{first_of, kind_of}
use Rattle.nodes.proofs.Members.{In}
use Rattle.nodes.proofs.Building.{pairs, nums-pairs}

pub never : {X : Type 0} (e : Expr) → ◌≡◌ {A = Option Expr} None (Some e) → X
never e p = let z : ◌≡◌ {A = ℕ} 0 1 = cc in absurd (omega arith)

pub same : (a b : Expr) → Some a ≡ Some b → a ≡ b
same a b p = cc

pub when_is : (b : Bool) (x e : Expr) → when b x ≡ Some e → x ≡ e
when_is true x e p = same x e p
when_is false x e p = never e p

tail_pairs : List (ℕ × Span) → List (ℕ × Span)
tail_pairs [] = []
tail_pairs (x ∷ xs) = xs

head_num : List (ℕ × Span) → ℕ
head_num [] = 0
head_num (x ∷ xs) = x.0

-- the row of the parts after the first
pub row_rest : (fs : List Entry) (ps : List Part) → links fs (length ps) (first_of ps) ≡ pairs ps → links fs (length (drop 1 ps)) (first_of (drop 1 ps)) ≡ pairs (drop 1 ps)
unfolding tail_pairs head_num
row_rest fs [] e = refl
row_rest fs (p ∷ []) e = refl
row_rest fs (p ∷ (q ∷ qs)) e =
    let rest = ap tail_pairs e in
    let here : (at fs p.node).next ≡ q.node = ap head_num rest in
    subst (λ (l : ℕ). links fs (suc (length qs)) l ≡ pairs (q ∷ qs)) here rest

module _ (t : Texts) (es : List Entry) where
  exprs-given : (g : ℕ → Expr) (ps : List Part) → ((x : ℕ) → In x (nodes ps) → g x ≡ expr t es x) → exprs_of g (nums (pairs ps)) ≡ exprs (given t es ps)
  exprs-given g [] e = refl
  exprs-given g (p ∷ ps) e = rw (e p.node (inl refl), exprs-given g ps (λ x i. e x (inr i))) refl

  parts_given : (g : ℕ → Expr) (ps : List Part) → ((x : ℕ) → In x (nodes ps) → g x ≡ expr t es x) → parts_of t g (pairs ps) ≡ substitutions (given t es ps)
  parts_given g [] e = refl
  parts_given g (p ∷ ps) e = rw (e p.node (inl refl), parts_given g ps (λ x i. e x (inr i))) refl

  leaf : (ps : List Part) (x e : Expr) → none (given t es ps) x ≡ Some e → ([] ≡ nodes ps) × (x ≡ e)
  leaf [] x e p = (refl, same x e p)
  leaf (q ∷ qs) x e p = never e p

  single : (ps : List Part) (f : Expr → Option Expr) (e : Expr) → one (given t es ps) f ≡ Some e → (p : Part) × (ps ≡ p ∷ []) × (f (expr t es p.node) ≡ Some e)
  single [] f e p = never e p
  single (q ∷ []) f e p = (q, refl, p)
  single (q ∷ (r ∷ rs)) f e p = never e p

  pair : (ps : List Part) (f : Expr → Expr → Option Expr) (e : Expr) → two (given t es ps) f ≡ Some e → (p : Part) × (q : Part) × (ps ≡ p ∷ (q ∷ [])) × (f (expr t es p.node) (expr t es q.node) ≡ Some e)
  pair [] f e p = never e p
  pair (q ∷ []) f e p = never e p
  pair (q ∷ (r ∷ [])) f e p = (q, r, refl, p)
  pair (q ∷ (r ∷ (u ∷ us))) f e p = never e p

  several : (ps : List Part) (f : Expr → List (Expr × List ℕ) → Option Expr) (e : Expr) → some (given t es ps) f ≡ Some e → (p : Part) × (qs : List Part) × (ps ≡ p ∷ qs) × (f (expr t es p.node) (given t es qs) ≡ Some e)
  several [] f e p = never e p
  several (q ∷ qs) f e p = (q, qs, refl, p)

  unary_is : (o : Option Un) (x y e : Expr) → y ≡ x → option_map (λ u. Expr.unary u x) o ≡ Some e → unary_by o y ≡ e
  unary_is None x y e s p = never e p
  unary_is (Some u) x y e s p = ap (Expr.unary u) s ∙ same (Expr.unary u x) e p

  binary_is : (o : Option Bin) (x x' y y' e : Expr) → y ≡ x → y' ≡ x' → option_map (λ u. Expr.binary u x x') o ≡ Some e → binary_by o y y' ≡ e
  binary_is None x x' y y' e s s' p = never e p
  binary_is (Some u) x x' y y' e s s' p = rw (s, s') (same (Expr.binary u x x') e p)

  module _ (fs : List Entry) (g : ℕ → Expr) where
    -- the parts of the kind are the parts that were given, and it means what they make
    abbrev Stands : Shape → List Part → Expr → Type 0
    Stands sh ps e = (kids_of (kind_of sh ps) (links_of fs (kind_of sh ps)) ≡ nodes ps) × (mean t g (kind_of sh ps) (links_of fs (kind_of sh ps)) ≡ e)

    abbrev Reads : List Part → Type 0
    Reads ps = (links fs (length ps) (first_of ps) ≡ pairs ps) × ((x : ℕ) → In x (nodes ps) → g x ≡ expr t es x)

    by_one : (sh : Shape) (ps : List Part) (e : Expr) (f : Expr → Option Expr) → Reads ps → one (given t es ps) f ≡ Some e
        → ((p : Part) → g p.node ≡ expr t es p.node → f (expr t es p.node) ≡ Some e → Stands sh (p ∷ []) e) → Stands sh ps e
    by_one sh ps e f r m k =
        let w = single ps f e m in
        subst (λ (xs : List Part). Reads xs → Stands sh xs e) (sym w.1) (λ r'. k w.0 (r'.1 w.0.node (inl refl)) w.2) r

    by_two : (sh : Shape) (ps : List Part) (e : Expr) (f : Expr → Expr → Option Expr) → Reads ps → two (given t es ps) f ≡ Some e
        → ((p q : Part) → g p.node ≡ expr t es p.node → g q.node ≡ expr t es q.node → f (expr t es p.node) (expr t es q.node) ≡ Some e → Stands sh (p ∷ (q ∷ [])) e) → Stands sh ps e
    by_two sh ps e f r m k =
        let w = pair ps f e m in
        subst (λ (xs : List Part). Reads xs → Stands sh xs e) (sym w.2) (λ r'. k w.0 w.1 (r'.1 w.0.node (inl refl)) (r'.1 w.1.node (inr (inl refl))) w.3) r

    by_some : (sh : Shape) (ps : List Part) (e : Expr) (f : Expr → List (Expr × List ℕ) → Option Expr) → Reads ps → some (given t es ps) f ≡ Some e
        → ((p : Part) (qs : List Part) → g p.node ≡ expr t es p.node → exprs_of g (nums (pairs qs)) ≡ exprs (given t es qs) → links fs (length qs) (first_of qs) ≡ pairs qs → f (expr t es p.node) (given t es qs) ≡ Some e → Stands sh (p ∷ qs) e) → Stands sh ps e
    by_some sh ps e f r m k =
        let w = several ps f e m in
        subst (λ (xs : List Part). Reads xs → Stands sh xs e) (sym w.2)
        (λ r'. k w.0 w.1 (r'.1 w.0.node (inl refl)) (exprs-given g w.1 (λ x i. r'.1 x (inr i))) (row_rest fs (w.0 ∷ w.1) r'.0) w.3) r

    pub stands : (sh : Shape) (ps : List Part) (e : Expr) → Reads ps → made t sh (given t es ps) ≡ Some e → Stands sh ps e
    stands (S.Number x) ps e r m = leaf ps (Expr.number x) e m
    stands (S.String s) ps e r m = leaf ps (Expr.string (units_of t s)) e m
    stands (S.Boolean b) ps e r m = leaf ps (Expr.boolean b) e m
    stands S.Null ps e r m = leaf ps Expr.null e m
    stands (S.Name i) ps e r m = leaf ps (Expr.name (name_of t i)) e m
    stands S.EmptyArray ps e r m = leaf ps Expr.array e m
    stands (S.Unary o) ps e r m = by_one (S.Unary o) ps e _ r m λ p a f. (refl, unary_is (unary_of o) _ _ e a f)
    stands (S.Binary o) ps e r m = by_two (S.Binary o) ps e _ r m λ p q a b f. (refl, binary_is (binary_of o) _ _ _ _ e a b f)
    stands (S.Template s) ps e r m =
        (rw r.0 (nums-pairs ps), rw r.0 (ap (Expr.template (units_of t s)) (parts_given g ps r.1) ∙ when_is (leb (length (given t es ps)) 64) (Expr.template (units_of t s) (substitutions (given t es ps))) e m))
    stands (S.Member s m') ps e r m = by_one (S.Member s m') ps e _ r m λ p a f. (refl, rw a (same (Expr.member m' (expr t es p.node) (units_of t s)) e f))
    stands (S.Index m') ps e r m = by_two (S.Index m') ps e _ r m λ p q a b f. (refl, rw (a, b) (same (Expr.index m' (expr t es p.node) (expr t es q.node)) e f))
    stands (S.Call m') ps e r m = by_some (S.Call m') ps e _ r m λ p qs a b l f. (
      ap (λ (xs : List (ℕ × Span)). p.node ∷ nums xs) l ∙ ap (λ (xs : List ℕ). p.node ∷ xs) (nums-pairs qs),
      rw (l, a, b) (when_is (leb (length (given t es qs)) 8) (Expr.call m' (expr t es p.node) (exprs (given t es qs))) e f),
    )
    stands S.Chain ps e r m = by_one S.Chain ps e _ r m λ p a f. (refl, rw a (same (Expr.chain (expr t es p.node)) e f))
    stands S.Sequence ps e r m = by_some S.Sequence ps e _ r m λ p qs a b l f. (
      ap (λ (xs : List (ℕ × Span)). p.node ∷ nums xs) l ∙ ap (λ (xs : List ℕ). p.node ∷ xs) (nums-pairs qs),
      rw (l, a, b) (when_is (leb 1 (length (given t es qs)) && leb (length (given t es qs)) 7) (Expr.sequence (expr t es p.node) (exprs (given t es qs))) e f),
    )
