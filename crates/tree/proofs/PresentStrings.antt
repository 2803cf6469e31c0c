-- Only a string node stands for a string.
use Rattle.std.proofs.Common.{◌≡◌, ℕ, Bool, true, false, List, Some, None, vec_items, Option, sym, refl, ap, ◌∙◌, arith}
use Rattle.units.specs.declared.span.Span.{Span}
use Rattle.syntax.specs.Operators.{Un, Bin, unary_of, binary_of}
use Rattle.syntax.specs.Expr.{Expr}
use Rattle.nodes.specs.declared.kind.Kind.{Kind}
use Rattle.nodes.specs.declared.kind.Kind.TheVariants as K
use Rattle.nodes.specs.declared.kind.Entry.{Entry}
use Rattle.nodes.specs.Meaning.{Texts, units_of, at, links_of, unary_by, binary_by, mean}
use Rattle.tree.specs.declared.store.Store.{Store}
use Rattle.tree.specs.State.{Present, stands_for}
use Rattle.tree.specs.Calls.{Readable}
use Rattle.tree.specs.Of.{texts_of, state_of}
use Rattle.tree.proofs.Steps.{node}
use Rattle.tree.proofs.PresentNodes.{present_used}

abbrev is_string : Expr → Bool
is_string (Expr.number x) = false
is_string (Expr.string s) = true
is_string (Expr.boolean b) = false
is_string Expr.null = false
is_string (Expr.name s) = false
is_string Expr.array = false
is_string (Expr.unary o e) = false
is_string (Expr.binary o e f) = false
is_string (Expr.template s ps) = false
is_string (Expr.member m e s) = false
is_string (Expr.index m e f) = false
is_string (Expr.call m e es) = false
is_string (Expr.chain e) = false
is_string (Expr.sequence e es) = false

unary_not : (o : Option Un) (e : Expr) → is_string (unary_by o e) ≡ false
unary_not None e = refl
unary_not (Some u) e = refl

binary_not : (o : Option Bin) (e f : Expr) → is_string (binary_by o e f) ≡ false
binary_not None e f = refl
binary_not (Some b) e f = refl

other : (t : Texts) (g : ℕ → Expr) (ls : List (ℕ × Span)) (k : Kind) → ((s : Span) → k ≡ K.String s → ⊥) → is_string (mean t g k ls) ≡ false
other t g ls K.Null non = refl
other t g ls (K.Number x) non = refl
other t g ls (K.String s) non = absurd (non s refl)
other t g ls (K.Boolean b) non = refl
other t g ls (K.Name i) non = refl
other t g ls K.EmptyArray non = refl
other t g ls (K.Unary o a) non = unary_not (unary_of o) (g a)
other t g ls (K.Binary o a b) non = binary_not (binary_of o) (g a) (g b)
other t g ls (K.Template s r) non = refl
other t g ls (K.Member a s m) non = refl
other t g ls (K.Index a b m) non = refl
other t g ls (K.Call a r m) non = refl
other t g ls (K.Chain a) non = refl
other t g ls (K.Sequence a r) non = refl

module _ (self : Store) (n : ℕ) (p : Present (state_of self) n) (en : Entry) (e : en ≡ at (vec_items self.entries) n) where
  stands : (k : Kind) → en.kind ≡ k → stands_for (state_of self) n ≡ mean (texts_of self) (stands_for (state_of self)) k (links_of (vec_items self.entries) k)
  stands = node (texts_of self) (vec_items self.entries) _ self.sound n (present_used self n p) en e

  pub a_string : (s : Span) → en.kind ≡ K.String s → stands_for (state_of self) n ≡ Expr.string (units_of (texts_of self) s)
  a_string s is = stands (K.String s) is

  pub no_string : ((s : Span) → en.kind ≡ K.String s → ⊥) → Readable (state_of self) n → ⊥
  no_string non r =
      let a = ap is_string (stands en.kind refl) ∙ other (texts_of self) (stands_for (state_of self)) _ en.kind non in
      let d : true ≡ false = ap is_string (sym r.1.1) ∙ a in
      let z : ◌≡◌ {A = ℕ} 0 1 = cc in
      omega arith
