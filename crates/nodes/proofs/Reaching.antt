-- The way down from a node, taken upwards by parents.
use Rattle.std.proofs.Common.{◌≡◌, ℕ, ◌<◌, true, ◌⊎◌, List, [], ◌∷◌, ◌++◌, Some, None, sym, refl, ◌∙◌, subst, inl, inr, ⊎_elim, arith}
use Rattle.nodes.specs.declared.kind.Entry.{Entry}
use Rattle.nodes.specs.Meaning.{at, kids, has, Under, Sound, Held, Path, Reaches}
use Rattle.nodes.proofs.Laws.{held_under}

-- the last step of a way
Last : List Entry → ℕ → ℕ → ℕ → Type 0
Last es used m n = (m ≡ n) ⊎ ((p : ℕ) × (Under es used p n × Reaches es m p))

last : (es : List Entry) (used : ℕ) → Sound es used → (n : ℕ) (ks : List ℕ) (m : ℕ) → m < used → Path es n ks m → Last es used m n
unfolding Last
last es used s n [] m lt p = inl p
last es used s n (k ∷ ks) m lt p =
    let u : Under es used m k = (lt, p.0) in
    ⊎_elim
    (λ (e : k ≡ n). inr (m, (subst (λ (x : ℕ). Under es used m x) e u, ([], refl))))
    (λ w. inr (w.0, (w.1.0, (k ∷ w.1.1.0, (p.0, w.1.1.1)))))
    (last es used s n ks k (s m k u).0 p.1)

more : (es : List Entry) (n k : ℕ) → has k (kids es n) ≡ true → (ks : List ℕ) (m : ℕ) → Path es n ks m → Path es k (ks ++ (k ∷ [])) m
more es n k h [] m p = (rw p h, refl)
more es n k h (x ∷ ks) m p = (p.0, more es n k h ks x p.1)

module _ (es : List Entry) (used m : ℕ) (s : Sound es used) (low : m < used) where
  -- a node other than the first is reached through its parent
  pub up : (n p : ℕ) → (m ≡ n → ⊥) → (at es n).parent ≡ Some p → Reaches es m n → Reaches es m p
  unfolding Last
  up n p ne e r =
      ⊎_elim
      (λ d. absurd (ne d))
      (λ w. let same : w.0 ≡ p = let q : Some w.0 ≡ Some p = sym (s w.0 n w.1.0).2 ∙ e in cc in subst (Reaches es m) same w.1.1)
      (last es used s n r.0 m low r.1)

  pub down : (n p : ℕ) → Held es used → n < used → (at es n).parent ≡ Some p → Reaches es m p → Reaches es m n
  down n p h lt e r = (r.0 ++ (n ∷ []), more es p n (held_under es used h p n lt e).1 r.0 m r.1)

  -- a node without a parent is reached from itself alone
  pub alone : (n : ℕ) → (m ≡ n → ⊥) → (at es n).parent ≡ None → Reaches es m n → ⊥
  unfolding Last
  alone n ne e r =
      ⊎_elim ne
      (λ w. let q : None ≡ Some w.0 = sym e ∙ (s w.0 n w.1.0).2 in let z : ◌≡◌ {A = ℕ} 0 1 = cc in omega arith)
      (last es used s n r.0 m low r.1)
