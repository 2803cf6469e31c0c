-- Marks on a spine.
use Rattle.std.proofs.Common.{◌≡◌, ℕ, Bool, false, ◌||◌, List, Some, None, Option, sym, refl, ap, inl, arith}
use Rattle.units.specs.declared.span.Span.{Span}
use Rattle.syntax.specs.Operators.{Un, Bin, unary_of, binary_of}
use Rattle.syntax.specs.Expr.{Expr, marked}
use Rattle.nodes.specs.declared.kind.Kind.{Kind}
use Rattle.nodes.specs.declared.kind.Kind.TheVariants as K
use Rattle.nodes.specs.declared.spine.Link.{Link}
use Rattle.nodes.specs.Meaning.{Texts, kids_of, unary_by, binary_by, mean}
use Rattle.nodes.specs.Spine.{link_of}
use Rattle.nodes.proofs.Members.{In}

abbrev pub marked_by : (ℕ → Expr) → Option Link → Bool
marked_by g None = false
marked_by g (Some l) = l.optional || marked (g l.part)

unary_marked : (o : Option Un) (e : Expr) → marked (unary_by o e) ≡ false
unary_marked None e = refl
unary_marked (Some u) e = refl

binary_marked : (o : Option Bin) (e f : Expr) → marked (binary_by o e f) ≡ false
binary_marked None e f = refl
binary_marked (Some u) e f = refl

pub mean-marked : (t : Texts) (g : ℕ → Expr) (k : Kind) (ls : List (ℕ × Span)) → marked (mean t g k ls) ≡ marked_by g (link_of k)
mean-marked t g K.Null ls = refl
mean-marked t g (K.Number x) ls = refl
mean-marked t g (K.String s) ls = refl
mean-marked t g (K.Boolean b) ls = refl
mean-marked t g (K.Name i) ls = refl
mean-marked t g K.EmptyArray ls = refl
mean-marked t g (K.Unary o a) ls = unary_marked (unary_of o) (g a)
mean-marked t g (K.Binary o a b) ls = binary_marked (binary_of o) (g a) (g b)
mean-marked t g (K.Template s r) ls = refl
mean-marked t g (K.Member a s m) ls = refl
mean-marked t g (K.Index a b m) ls = refl
mean-marked t g (K.Call a r m) ls = refl
mean-marked t g (K.Chain a) ls = refl
mean-marked t g (K.Sequence a r) ls = refl

never : {X : Type 0} (l : Link) → ◌≡◌ {A = Option Link} None (Some l) → X
never l e = let z : ◌≡◌ {A = ℕ} 0 1 = cc in absurd (omega arith)

-- the step leads to the first part
pub link_part : (k : Kind) (ls : List (ℕ × Span)) (l : Link) → link_of k ≡ Some l → In l.part (kids_of k ls)
link_part K.Null ls l e = never l e
link_part (K.Number x) ls l e = never l e
link_part (K.String s) ls l e = never l e
link_part (K.Boolean b) ls l e = never l e
link_part (K.Name i) ls l e = never l e
link_part K.EmptyArray ls l e = never l e
link_part (K.Unary o a) ls l e = never l e
link_part (K.Binary o a b) ls l e = never l e
link_part (K.Template s r) ls l e = never l e
link_part (K.Member a s m) ls l e = inl (let q : record { part = a; optional = m } ≡ l = cc in sym (ap (λ (x : Link). x.part) q))
link_part (K.Index a b m) ls l e = inl (let q : record { part = a; optional = m } ≡ l = cc in sym (ap (λ (x : Link). x.part) q))
link_part (K.Call a r m) ls l e = inl (let q : record { part = a; optional = m } ≡ l = cc in sym (ap (λ (x : Link). x.part) q))
link_part (K.Chain a) ls l e = never l e
link_part (K.Sequence a r) ls l e = never l e
