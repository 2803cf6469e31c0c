-- Marks, read off the entries.
use Rattle.std.proofs.Common.{◌≡◌, ℕ, ◌<◌, Bool, true, false, not, ◌&&◌, ◌||◌, List, [], ◌∷◌, Some, None, Option, sym, refl, ap, ◌∙◌}
use Rattle.std.specs.List.{list_all}
use Rattle.syntax.specs.Expr.{marked}
use Rattle.nodes.specs.declared.kind.Entry.{Entry}
use Rattle.nodes.specs.declared.spine.Link.{Link}
use Rattle.nodes.specs.declared.shape.Part.{Part}
use Rattle.nodes.specs.Meaning.{Texts, at, expr, Sound}
use Rattle.nodes.specs.Made.{given, unmarked}
use Rattle.nodes.specs.Spine.{link_of}
use Rattle.nodes.proofs.Spines.{marked_by, mean-marked, link_part}
use Rattle.tree.proofs.Steps.{node, part}

module _ (t : Texts) (es : List Entry) (used : ℕ) (s : Sound es used) (n : ℕ) (lt : n < used) (en : Entry) (e : en ≡ at es n) where
  marked_at : (o : Option Link) → o ≡ link_of en.kind → marked (expr t es n) ≡ marked_by (expr t es) o
  marked_at o i = ap marked (node t es used s n lt en e en.kind refl) ∙ mean-marked t (expr t es) en.kind _ ∙ ap (marked_by (expr t es)) (sym i)

  module _ (o : Option Link) (i : o ≡ link_of en.kind) (l : Link) (w : o ≡ Some l) where
    pub link_below : (l.part < used) × ((at es l.part).height < (at es n).height)
    link_below = part t es used s n lt en e en.kind refl l.part (link_part en.kind _ l (sym i ∙ w))

    is : marked (expr t es n) ≡ (l.optional || marked (expr t es l.part))
    is = marked_at o i ∙ ap (marked_by (expr t es)) w

    pub marked_here : l.optional ≡ true → l.optional ≡ marked (expr t es n)
    marked_here m = m ∙ sym (is ∙ rw m refl)

    pub marked_below : l.optional ≡ false → (b : Bool) → b ≡ marked (expr t es l.part) → b ≡ marked (expr t es n)
    marked_below m b h = h ∙ sym (is ∙ rw m refl)

  pub no_link : (o : Option Link) → o ≡ link_of en.kind → o ≡ None → false ≡ marked (expr t es n)
  no_link o i w = sym (marked_at o i ∙ ap (marked_by (expr t es)) w)

pub all_unmarked : (t : Texts) (es : List Entry) (ps : List Part) → list_all (λ p. not (marked (expr t es p.node))) ps ≡ unmarked (given t es ps)
all_unmarked t es [] = refl
all_unmarked t es (p ∷ ps) = ap (λ b. not (marked (expr t es p.node)) && b) (all_unmarked t es ps)
