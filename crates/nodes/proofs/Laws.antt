-- The laws of what a node stands for: its unfolding, and what a change leaves alone.
use Rattle.std.proofs.Common.{◌≡◌, ℕ, zero, suc, ◌<◌, ltb, List, [], ◌∷◌, Some, sym, refl, ap, ◌∙◌, inl, inr, arith}
use Rattle.std.proofs.lemmas.Bool.{and_parts, ltb-true}
use Rattle.units.specs.declared.span.Span.{Span}
use Rattle.syntax.specs.Operators.{unary_of}
use Rattle.syntax.specs.Expr.{Expr}
use Rattle.nodes.specs.declared.kind.Kind.{Kind}
use Rattle.nodes.specs.declared.kind.Kind.TheVariants as K
use Rattle.nodes.specs.declared.kind.Entry.{Entry}
use Rattle.nodes.specs.Meaning.{Texts, units_of, at, links, links_of, nums, kids_of, kids, exprs_of, parts_of, unary_by, mean, expr_at, expr, has, Under, Sound, Held}
use Rattle.nodes.proofs.Members.{In, in-has}

pub exprs_cong : (g h : ℕ → Expr) (ls : List ℕ) → ((x : ℕ) → In x ls → g x ≡ h x) → exprs_of g ls ≡ exprs_of h ls
exprs_cong g h [] e = refl
exprs_cong g h (l ∷ ls) e = let a = e l (inl refl) in let b = exprs_cong g h ls (λ x i. e x (inr i)) in cc

pub parts_cong : (t : Texts) (g h : ℕ → Expr) (ls : List (ℕ × Span)) → ((x : ℕ) → In x (nums ls) → g x ≡ h x) → parts_of t g ls ≡ parts_of t h ls
parts_cong t g h [] e = refl
parts_cong t g h (l ∷ ls) e = rw (e l.0 (inl refl), parts_cong t g h ls (λ x i. e x (inr i))) refl

pub mean-cong : (t : Texts) (g h : ℕ → Expr) (k : Kind) (ls : List (ℕ × Span)) → ((x : ℕ) → In x (kids_of k ls) → g x ≡ h x) → mean t g k ls ≡ mean t h k ls
mean-cong t g h K.Null ls e = refl
mean-cong t g h (K.Number x) ls e = refl
mean-cong t g h (K.String s) ls e = refl
mean-cong t g h (K.Boolean b) ls e = refl
mean-cong t g h (K.Name x) ls e = refl
mean-cong t g h K.EmptyArray ls e = refl
mean-cong t g h (K.Unary o a) ls e = ap (unary_by (unary_of o)) (e a (inl refl))
mean-cong t g h (K.Binary o a b) ls e = rw (e a (inl refl), e b (inr (inl refl))) refl
mean-cong t g h (K.Template s r) ls e = ap (Expr.template (units_of t s)) (parts_cong t g h ls e)
mean-cong t g h (K.Member a s m) ls e = rw (e a (inl refl)) refl
mean-cong t g h (K.Index a b m) ls e = rw (e a (inl refl), e b (inr (inl refl))) refl
mean-cong t g h (K.Call a r m) ls e = rw (e a (inl refl), exprs_cong g h (nums ls) (λ x i. e x (inr i))) refl
mean-cong t g h (K.Chain a) ls e = ap Expr.chain (e a (inl refl))
mean-cong t g h (K.Sequence a r) ls e = rw (e a (inl refl), exprs_cong g h (nums ls) (λ x i. e x (inr i))) refl

-- a part of a node in use
pub under : (es : List Entry) (used n k : ℕ) → n < used → In k (kids es n) → Under es used n k
under es used n k lt i = (lt, in-has k (kids es n) i)

pub held_under : (es : List Entry) (used : ℕ) → Held es used → (n k : ℕ) → k < used → (at es k).parent ≡ Some n → Under es used n k
held_under es used h n k lt p = let w = and_parts (ltb n used) (has k (kids es n)) (h n k (lt, p)) in (ltb-true n used w.0, w.1)

module _ (t : Texts) (es : List Entry) (used : ℕ) (s : Sound es used) where
  -- more fuel changes nothing
  stable : (f g n : ℕ) → n < used → (at es n).height < f → (at es n).height < g → expr_at f t es n ≡ expr_at g t es n
  unfolding expr_at
  stable zero g n lt p q = absurd (omega arith)
  stable (suc f) zero n lt p q = absurd (omega arith)
  stable (suc f) (suc g) n lt p q =
      mean-cong t (expr_at f t es) (expr_at g t es) (at es n).kind (links_of es (at es n).kind) λ k i.
      let w = s n k (under es used n k lt i) in stable f g k w.0 (omega arith) (omega arith)

  pub unfold_expr : (n : ℕ) → n < used → expr t es n ≡ mean t (expr t es) (at es n).kind (links_of es (at es n).kind)
  unfolding expr_at expr
  unfold_expr n lt =
      mean-cong t (expr_at (at es n).height t es) (expr t es) (at es n).kind (links_of es (at es n).kind) λ k i.
      let w = s n k (under es used n k lt i) in stable (at es n).height (suc (at es k).height) k w.0 (omega arith) (omega arith)

  -- an induction over the tree, on a part P of it that is closed downwards
  pub below : (P Q : ℕ → Type 0)
      → ((n : ℕ) → n < used → P n → ((k : ℕ) → In k (kids es n) → k < used → (P k → Q k)) → Q n)
      → (n : ℕ) → n < used → P n → Q n
  below P Q step n lt p = go (suc (at es n).height) n lt p (omega arith)
    where
      go : (f n : ℕ) → n < used → P n → (at es n).height < f → Q n
      go zero n lt p h = absurd (omega arith)
      go (suc f) n lt p h = step n lt p λ k i l pk. let w = s n k (under es used n k lt i) in go f k l pk (omega arith)

-- the texts say the same of a kind and its row
abbrev pub Same : Texts → Texts → Kind → List (ℕ × Span) → Type 0
Same t u k ls = (g : ℕ → Expr) → mean u g k ls ≡ mean t g k ls

-- what keeps kinds, rows and their texts on a part P, closed downwards, keeps what the nodes there stand for
pub frame : (t u : Texts) (es fs : List Entry) (used used' : ℕ) → Sound es used → Sound fs used' → (P : ℕ → Type 0)
    → ((n : ℕ) → P n → (n < used) × (n < used') × ((at fs n).kind ≡ (at es n).kind) × (links_of fs (at es n).kind ≡ links_of es (at es n).kind) × Same t u (at es n).kind (links_of es (at es n).kind) × ((k : ℕ) → In k (kids es n) → P k))
    → (n : ℕ) → P n → expr u fs n ≡ expr t es n
frame t u es fs used used' s s' P keep n p =
    below t es used s P (λ m. expr u fs m ≡ expr t es m)
    (λ m lt pm ih.
    let w = keep m pm in
    let a = unfold_expr u fs used' s' m w.1 in
    let b = unfold_expr t es used s m lt in
    let c : mean u (expr u fs) (at fs m).kind (links_of fs (at fs m).kind) ≡ mean u (expr u fs) (at es m).kind (links_of es (at es m).kind) = rw (w.2, w.3) refl in
    let d = mean-cong u (expr u fs) (expr t es) (at es m).kind (links_of es (at es m).kind) (λ k i. ih k i (s m k (under es used m k lt i)).0 (w.5 k i)) in
    a ∙ c ∙ d ∙ w.4 (expr t es) ∙ sym b)
    n (keep n p).0 p

-- a row is read off the entries on it alone
pub links_same : (es fs : List Entry) (k l : ℕ) → ((x : ℕ) → In x (nums (links es k l)) → ((at fs x).next ≡ (at es x).next) × ((at fs x).after ≡ (at es x).after)) → links fs k l ≡ links es k l
links_same es fs zero l e = refl
links_same es fs (suc k) l e =
    let a = e l (inl refl) in
    let b = links_same es fs k (at es l).next (λ x i. e x (inr i)) in
    rw (a.0, a.1) (ap (λ (xs : List (ℕ × Span)). (l, (at es l).after) ∷ xs) b)

pub links_of_same : (es fs : List Entry) (k : Kind) → ((x : ℕ) → In x (nums (links_of es k)) → ((at fs x).next ≡ (at es x).next) × ((at fs x).after ≡ (at es x).after)) → links_of fs k ≡ links_of es k
links_of_same es fs K.Null e = refl
links_of_same es fs (K.Number x) e = refl
links_of_same es fs (K.String s) e = refl
links_of_same es fs (K.Boolean b) e = refl
links_of_same es fs (K.Name x) e = refl
links_of_same es fs K.EmptyArray e = refl
links_of_same es fs (K.Unary o a) e = refl
links_of_same es fs (K.Binary o a b) e = refl
links_of_same es fs (K.Template s r) e = links_same es fs r.count r.first e
links_of_same es fs (K.Member a s m) e = refl
links_of_same es fs (K.Index a b m) e = refl
links_of_same es fs (K.Call a r m) e = links_same es fs r.count r.first e
links_of_same es fs (K.Chain a) e = refl
links_of_same es fs (K.Sequence a r) e = links_same es fs r.count r.first e
