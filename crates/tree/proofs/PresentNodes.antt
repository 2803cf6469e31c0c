-- The nodes that count: they are in use, and parents lead from them to the root.
use Rattle.std.proofs.Common.{◌≡◌, ℕ, ◌<◌, List, [], ◌∷◌, length, Some, None, vec_items, Option, sym, refl, ap, ◌∙◌, subst}
use Rattle.nodes.specs.declared.kind.Entry.{Entry}
use Rattle.nodes.specs.Meaning.{at, Sound, Path, Reaches}
use Rattle.nodes.proofs.Laws.{held_under}
use Rattle.nodes.proofs.Reaching.{up, down, alone}
use Rattle.tree.specs.declared.store.Store.{Store}
use Rattle.tree.specs.State.{used, PresentBy, Present, Rooted}
use Rattle.tree.specs.Of.{state_of}

-- parts are in use
reached : (es : List Entry) (used : ℕ) → Sound es used → (n : ℕ) (ks : List ℕ) (m : ℕ) → m < used → Path es n ks m → n < used
reached es used s n [] m lt p = subst (λ (x : ℕ). x < used) p lt
reached es used s n (k ∷ ks) m lt p = reached es used s n ks k (s m k (lt, p.0)).0 p.1

in_use : (root : Option ℕ) (es : List Entry) → Sound es (length es) → Rooted root es → (n : ℕ) → PresentBy root es n → n < length es
in_use None es s r n p = p
in_use (Some m) es s r n p = reached es (length es) s n p.0 m (r m refl) p.1

pub present_used : (self : Store) (n : ℕ) → Present (state_of self) n → n < used (state_of self)
present_used self n p = in_use self.root (vec_items self.entries) self.sound self.rooted n p

-- on the way up from n to a node i, whether `top` leads down to i is whether it leads down to n
abbrev pub Climbed : List Entry → ℕ → ℕ → ℕ → Type 0
Climbed es top n i = (i < length es) × (Reaches es top i → Reaches es top n) × (Reaches es top n → Reaches es top i)

module _ (self : Store) (top n i : ℕ) (low : top < used (state_of self)) (w : Climbed (vec_items self.entries) top n i) (ne : i ≡ top → ⊥) (en : Entry) (e : en ≡ at (vec_items self.entries) i) where
  pub climb : (p : ℕ) → en.parent ≡ Some p → Climbed (vec_items self.entries) top n p × (en.height < (at (vec_items self.entries) p).height)
  climb p is =
      let up_to : (at (vec_items self.entries) i).parent ≡ Some p = ap (λ (x : Entry). x.parent) (sym e) ∙ is in
      let u = held_under _ _ self.held p i w.0 up_to in (
        (u.0, (λ r. w.1 (down _ _ top self.sound low i p self.held w.0 up_to r)), (λ r. up _ _ top self.sound low i p (λ q. ne (sym q)) up_to (w.2 r))),
        rw e (self.sound p i u).1,
      )

  pub apart : en.parent ≡ None → Reaches (vec_items self.entries) top n → ⊥
  apart is r = alone _ _ top self.sound low i (λ q. ne (sym q)) (ap (λ (x : Entry). x.parent) (sym e) ∙ is) (w.2 r)
