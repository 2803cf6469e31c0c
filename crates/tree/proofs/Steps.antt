-- A step of a recursion over a tree: what a node stands for, and that its parts lie lower.
use Rattle.std.proofs.Common.{◌≡◌, ℕ, ◌<◌, List, sym, ap, ◌∙◌, subst}
use Rattle.nodes.specs.declared.kind.Kind.{Kind}
use Rattle.nodes.specs.declared.kind.Entry.{Entry}
use Rattle.nodes.specs.Meaning.{Texts, at, links_of, kids_of, mean, expr, Sound}
use Rattle.nodes.proofs.Members.{In}
use Rattle.nodes.proofs.Laws.{unfold_expr, under}

module _ (t : Texts) (es : List Entry) (used : ℕ) (s : Sound es used) (n : ℕ) (lt : n < used) (en : Entry) (e : en ≡ at es n) (k : Kind) (i : en.kind ≡ k) where
  same : (at es n).kind ≡ k
  same = sym (ap (λ (y : Entry). y.kind) e) ∙ i

  pub node : expr t es n ≡ mean t (expr t es) k (links_of es k)
  node = unfold_expr t es used s n lt ∙ ap (λ (y : Kind). mean t (expr t es) y (links_of es y)) same

  pub part : (m : ℕ) → In m (kids_of k (links_of es k)) → (m < used) × ((at es m).height < (at es n).height)
  part m j =
      let w = s n m (under es used n m lt (subst (λ (y : Kind). In m (kids_of y (links_of es y))) (sym same) j)) in
      (w.0, w.1)
