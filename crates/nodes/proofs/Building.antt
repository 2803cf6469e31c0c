-- A new node over free parts.
use Rattle.std.proofs.Common.{◌≡◌, ℕ, ◌+◌, ◌<◌, true, false, cond, not, ◌&&◌, ltb, ◌≢◌, ◌⊎◌, List, [], ◌∷◌, length, set, is_some, Some, None, Option, sym, refl, ap, ◌∙◌, subst, inl, inr, ⊎_elim, arith, length-set, get_or-set_other, get_or-set_same}
use Rattle.std.proofs.lemmas.List.{get_or_append_left, get_or_at, length_push}
use Rattle.std.proofs.lemmas.Bool.{cases_eq, and_parts, and_from, lt-ltb, ltb-true, both_ways, cases_Bool}
use Rattle.std.specs.List.{All}
use Rattle.std.proofs.lemmas.List.Elements.{All-head, All-tail}
use Rattle.units.specs.declared.span.Span.{Span}
use Rattle.nodes.specs.declared.kind.Kind.{Kind}
use Rattle.nodes.specs.declared.kind.Entry.{Entry}
use Rattle.nodes.specs.declared.shape.Part.{Part}
use Rattle.nodes.specs.Meaning.{Texts, blank, at, links, links_of, fixed, nums, kids_of, kids, expr, has, distinct, Sound, Held, Single}
use Rattle.nodes.specs.Made.{nodes, loose, free}
use Rattle.nodes.specs.Put.{first_of, tied, linked, new_entry, with_added}
use Rattle.nodes.proofs.Members.{In, Once, in-has, has_in, once_distinct, in_right}
use Rattle.nodes.proofs.Laws.{frame, under, held_under, links_same, links_of_same}

pub length-linked : (ps : List Part) (n : ℕ) (es : List Entry) → length (linked ps n es) ≡ length es
length-linked [] n es = refl
length-linked (p ∷ ps) n es = length-set (linked ps n es) p.node _ ∙ length-linked ps n es

-- each part with the text after it, as a row has them
abbrev pub pairs : List Part → List (ℕ × Span)
pairs [] = []
pairs (p ∷ ps) = (p.node, p.after) ∷ pairs ps

pub nums-pairs : (ps : List Part) → nums (pairs ps) ≡ nodes ps
nums-pairs [] = refl
nums-pairs (p ∷ ps) = ap (λ (xs : List ℕ). p.node ∷ xs) (nums-pairs ps)

-- linking leaves the entries off the list alone
linked_off : (ps : List Part) (n : ℕ) (es : List Entry) (x : ℕ) → (In x (nodes ps) → ⊥) → at (linked ps n es) x ≡ at es x
linked_off [] n es x out = refl
linked_off (p ∷ ps) n es x out = get_or-set_other (linked ps n es) p.node x _ blank (λ e. out (inl e)) ∙ linked_off ps n es x (λ i. out (inr i))

-- what linking keeps of every entry
record Kept (e f : Entry) : Type 0 where
  kind : f.kind ≡ e.kind
  height : f.height ≡ e.height

linked_kept : (ps : List Part) (n : ℕ) (es : List Entry) → ((x : ℕ) → In x (nodes ps) → x < length es) → (x : ℕ) → Kept (at es x) (at (linked ps n es) x)
linked_kept [] n es low x = record { kind = refl; height = refl }
linked_kept (p ∷ ps) n es low x =
    let old = linked_kept ps n es (λ y i. low y (inr i)) x in
    ⊎_elim
    (λ (e : x ≡ p.node).
    let lt : p.node < length (linked ps n es) = rw (length-linked ps n es) (low p.node (inl refl)) in
    let now : at (linked (p ∷ ps) n es) x ≡ tied (at (linked ps n es) x) n (first_of ps) p.after = rw e (get_or-set_same (linked ps n es) p.node _ blank lt) in
    record { kind = ap (λ (y : Entry). y.kind) now ∙ old.kind; height = ap (λ (y : Entry). y.height) now ∙ old.height })
    (λ (ne : x ≢ p.node).
    let now : at (linked (p ∷ ps) n es) x ≡ at (linked ps n es) x = get_or-set_other (linked ps n es) p.node x _ blank ne in
    rw now old)
    (cases_eq x p.node)

linked-parent : (ps : List Part) (n : ℕ) (es : List Entry) → ((x : ℕ) → In x (nodes ps) → x < length es) → (x : ℕ) → In x (nodes ps) → (at (linked ps n es) x).parent ≡ Some n
linked-parent [] n es low x i = absurd i
linked-parent (p ∷ ps) n es low x i =
    ⊎_elim
    (λ (e : x ≡ p.node). let lt : p.node < length (linked ps n es) = rw (length-linked ps n es) (low p.node (inl refl)) in rw e (ap (λ (y : Entry). y.parent) (get_or-set_same (linked ps n es) p.node _ blank lt)))
    (λ (ne : x ≢ p.node). rw (get_or-set_other (linked ps n es) p.node x (tied (at (linked ps n es) p.node) n (first_of ps) p.after) blank ne) (linked-parent ps n es (λ y i. low y (inr i)) x (⊎_elim (λ e. absurd (ne e)) (λ j. j) i)))
    (cases_eq x p.node)

-- a fact of each part's text and of an entry's stays one
linked-after : (P : Span → Type 0) (ps : List Part) (n : ℕ) (es : List Entry) → ((x : ℕ) → In x (nodes ps) → x < length es) → All (λ p. P p.after) ps → (x : ℕ) → P (at es x).after → P (at (linked ps n es) x).after
linked-after P [] n es low a x p = p
linked-after P (q ∷ ps) n es low a x p =
    ⊎_elim
    (λ (e : x ≡ q.node).
    let lt : q.node < length (linked ps n es) = rw (length-linked ps n es) (low q.node (inl refl)) in
    rw (e, get_or-set_same (linked ps n es) q.node (tied (at (linked ps n es) q.node) n (first_of ps) q.after) blank lt) (All-head (λ p. P p.after) q ps a))
    (λ (ne : x ≢ q.node). rw (get_or-set_other (linked ps n es) q.node x (tied (at (linked ps n es) q.node) n (first_of ps) q.after) blank ne) (linked-after P ps n es (λ y i. low y (inr i)) (All-tail (λ p. P p.after) q ps a) x p))
    (cases_eq x q.node)

-- the row that linking makes
linked_row : (ps : List Part) (n : ℕ) (es : List Entry) → ((x : ℕ) → In x (nodes ps) → x < length es) → Once (nodes ps) → links (linked ps n es) (length ps) (first_of ps) ≡ pairs ps
linked_row [] n es low o = refl
linked_row (p ∷ ps) n es low o =
    let lt : p.node < length (linked ps n es) = rw (length-linked ps n es) (low p.node (inl refl)) in
    let t = tied (at (linked ps n es) p.node) n (first_of ps) p.after in
    let now : at (set (linked ps n es) p.node t) p.node ≡ t = get_or-set_same (linked ps n es) p.node t blank lt in
    let rest = linked_row ps n es (λ y i. low y (inr i)) o.1 in
    let same : links (set (linked ps n es) p.node t) (length ps) (first_of ps) ≡ links (linked ps n es) (length ps) (first_of ps) = links_same (linked ps n es) (set (linked ps n es) p.node t) (length ps) (first_of ps)
    (λ x i. let ne : x ≢ p.node = λ e. o.0 (subst (λ (y : ℕ). In y (nodes ps)) e (subst (In x) (ap nums rest ∙ nums-pairs ps) i)) in let off = get_or-set_other (linked ps n es) p.node x t blank ne in (ap (λ (y : Entry). y.next) off, ap (λ (y : Entry). y.after) off)) in
    rw (ap (λ (y : Entry). y.next) now, ap (λ (y : Entry). y.after) now) (ap (λ (xs : List (ℕ × Span)). (p.node, p.after) ∷ xs) (same ∙ rest))

none_of : (o : Option ℕ) → not (is_some o) ≡ true → o ≡ None
none_of None e = refl
none_of (Some x) e = let z : ◌≡◌ {A = ℕ} 0 1 = cc in absurd (omega arith)

pub free_each : (es : List Entry) (ps : List Part) → free es ps ≡ true → (x : ℕ) → In x (nodes ps) → (x < length es) × ((at es x).parent ≡ None)
free_each es [] f x i = absurd i
free_each es (p ∷ ps) f x (inl e) =
    let a = and_parts (loose es p.node) (not (has p.node (nodes ps)) && free es ps) f in
    let b = and_parts (ltb p.node (length es)) (not (is_some (at es p.node).parent)) a.0 in
    subst (λ (y : ℕ). (y < length es) × ((at es y).parent ≡ None)) (sym e) (ltb-true p.node (length es) b.0, none_of (at es p.node).parent b.1)
free_each es (p ∷ ps) f x (inr i) =
    let a = and_parts (loose es p.node) (not (has p.node (nodes ps)) && free es ps) f in
    free_each es ps (and_parts (not (has p.node (nodes ps))) (free es ps) a.1).1 x i

pub free-distinct : (es : List Entry) (ps : List Part) → free es ps ≡ true → distinct (nodes ps) ≡ true
free-distinct es [] f = refl
free-distinct es (p ∷ ps) f =
    let a = and_parts (loose es p.node) (not (has p.node (nodes ps)) && free es ps) f in
    let b = and_parts (not (has p.node (nodes ps))) (free es ps) a.1 in
    and_from (not (has p.node (nodes ps))) (distinct (nodes ps)) b.0 (free-distinct es ps b.1)

none_some : (o : Option ℕ) (n : ℕ) → o ≡ None → o ≡ Some n → ⊥
none_some o n p q = let z : ◌≡◌ {A = ℕ} 0 1 = cc in omega arith

module _ (es : List Entry) (k : Kind) (h : ℕ) (ps : List Part) (s : Sound es (length es)) (fr : free es ps ≡ true) where
  abbrev pub fs : List Entry
  fs = with_added es k h ps

  part_free : (x : ℕ) → In x (nodes ps) → (x < length es) × ((at es x).parent ≡ None)
  part_free = free_each es ps fr

  low : (x : ℕ) → In x (nodes ps) → x < length es
  low x i = (part_free x i).0

  old_at : (x : ℕ) → x < length es → at fs x ≡ at (linked ps (length es) es) x
  unfolding with_added
  old_at x lt = let old : x < length (linked ps (length es) es) = omega (arith, length-linked ps (length es) es) in get_or_append_left (linked ps (length es) es) (new_entry k h ∷ []) blank x old

  pub new_at : at fs (length es) ≡ new_entry k h
  unfolding with_added
  new_at = get_or_at (linked ps (length es) es) (new_entry k h) [] blank (length es) (length-linked ps (length es) es)

  kept : (x : ℕ) → x < length es → Kept (at es x) (at fs x)
  kept x lt = rw (old_at x lt) (linked_kept ps (length es) es low x)

  pub old_kind : (x : ℕ) → x < length es → (at fs x).kind ≡ (at es x).kind
  old_kind x lt = (kept x lt).kind

  pub old_height : (x : ℕ) → x < length es → (at fs x).height ≡ (at es x).height
  old_height x lt = (kept x lt).height

  pub old_after : (P : Span → Type 0) → All (λ p. P p.after) ps → (x : ℕ) → x < length es → P (at es x).after → P (at fs x).after
  old_after P a x lt p = subst (λ (y : Entry). P y.after) (sym (old_at x lt)) (linked-after P ps (length es) es low a x p)

  pub old_parents : (x : ℕ) → x < length es → (at fs x).parent ≡ cond (has x (nodes ps)) (Some (length es)) (at es x).parent
  old_parents x lt =
      ⊎_elim
      (λ (i : has x (nodes ps) ≡ true). rw (i, old_at x lt) (linked-parent ps (length es) es low x (has_in x (nodes ps) i)))
      (λ (i : has x (nodes ps) ≡ false). rw (i, old_at x lt) (ap (λ (y : Entry). y.parent) (linked_off ps (length es) es x (λ j. both_ways (has x (nodes ps)) i (in-has x (nodes ps) j)))))
      (cases_Bool (has x (nodes ps)))

  pub length_new : length fs ≡ length es + 1
  unfolding with_added
  length_new = length_push (linked ps (length es) es) (new_entry k h) ∙ ap (λ n. n + 1) (length-linked ps (length es) es)

  -- a node that stood below another is no new part
  no_part : (n x : ℕ) → n < length es → In x (kids es n) → In x (nodes ps) → ⊥
  no_part n x lt j i = none_some (at es x).parent n (part_free x i).1 (s n x (under es (length es) n x lt j)).2

  old_off : (n x : ℕ) → n < length es → In x (kids es n) → at fs x ≡ at es x
  old_off n x lt j = old_at x (s n x (under es (length es) n x lt j)).0 ∙ linked_off ps (length es) es x (no_part n x lt j)

  pub old_links : (n : ℕ) → n < length es → links_of fs (at es n).kind ≡ links_of es (at es n).kind
  old_links n lt = links_of_same es fs (at es n).kind λ x i.
      let same = old_off n x lt (in_right x (fixed (at es n).kind) _ i) in
      (ap (λ (y : Entry). y.next) same, ap (λ (y : Entry). y.after) same)

  old_kids : (n : ℕ) → n < length es → kids fs n ≡ kids es n
  old_kids n lt = rw ((kept n lt).kind, old_links n lt) refl

  -- the row of the last parts
  pub new_row : links fs (length ps) (first_of ps) ≡ pairs ps
  new_row =
      let made = linked_row ps (length es) es low (once_distinct (nodes ps) (free-distinct es ps fr)) in
      links_same (linked ps (length es) es) fs (length ps) (first_of ps) (λ x i.
      let e = old_at x (part_free x (subst (In x) (ap nums made ∙ nums-pairs ps) i)).0 in
      (ap (λ (y : Entry). y.next) e, ap (λ (y : Entry). y.after) e)) ∙ made

  module _ (fits : kids_of k (links_of fs k) ≡ nodes ps) (tall : (x : ℕ) → In x (nodes ps) → (at es x).height < h) where
    new_kids : kids fs (length es) ≡ nodes ps
    new_kids = rw new_at fits

    Way : ℕ → Type 0
    Way n = (n < length es) ⊎ (n ≡ length es)

    way : (n : ℕ) → n < length es + 1 → Way n
    unfolding Way
    way n lt = ⊎_elim (λ e. inr e) (λ ne. inl (omega arith)) (cases_eq n (length es))

    old_in : (n x : ℕ) → n < length es → has x (kids fs n) ≡ true → In x (kids es n)
    old_in n x lt j = has_in x (kids es n) (subst (λ (xs : List ℕ). has x xs ≡ true) (old_kids n lt) j)

    new_in : (n x : ℕ) → n ≡ length es → has x (kids fs n) ≡ true → In x (nodes ps)
    new_in n x e j = has_in x (nodes ps) (subst (λ (xs : List ℕ). has x xs ≡ true) (ap (kids fs) e ∙ new_kids) j)

    new_parent : (x : ℕ) → In x (nodes ps) → (at fs x).parent ≡ Some (length es)
    new_parent x i = rw (old_at x (part_free x i).0) (linked-parent ps (length es) es low x i)

    sound : Sound fs (length es + 1)
    unfolding Way
    sound n x u =
        ⊎_elim
        (λ lt. let j = old_in n x lt u.1 in let w = s n x (under es (length es) n x lt j) in
        (omega (arith, w.0), rw (old_height n lt, old_height x w.0) w.1, ap (λ (y : Entry). y.parent) (old_off n x lt j) ∙ w.2))
        (λ e. let i = new_in n x e u.1 in let w = part_free x i in
        (omega (arith, w.0), rw (e, old_height x w.0, new_at) (tall x i), rw e (new_parent x i)))
        (way n u.0)

    single : Single es (length es) → Single fs (length es + 1)
    unfolding Way
    single g n lt =
        ⊎_elim
        (λ l. subst (λ (xs : List ℕ). distinct xs ≡ true) (sym (old_kids n l)) (g n l))
        (λ e. subst (λ (xs : List ℕ). distinct xs ≡ true) (sym (ap (kids fs) e ∙ new_kids)) (free-distinct es ps fr))
        (way n lt)

    held : Held es (length es) → Held fs (length es + 1)
    unfolding Way
    held g n x (lt, p) =
        ⊎_elim
        (λ (l : x < length es).
        ⊎_elim
        (λ (i : has x (nodes ps) ≡ true).
        let e : n ≡ length es = let q : Some n ≡ Some (length es) = sym p ∙ new_parent x (has_in x (nodes ps) i) in cc in
        and_from (ltb n (length es + 1)) (has x (kids fs n)) (lt-ltb n (length es + 1) (omega arith)) (rw (e, new_kids) i))
        (λ (i : has x (nodes ps) ≡ false).
        let off : at fs x ≡ at es x = old_at x l ∙ linked_off ps (length es) es x (λ j. both_ways (has x (nodes ps)) i (in-has x (nodes ps) j)) in
        let w = held_under es (length es) g n x l (sym (ap (λ (y : Entry). y.parent) off) ∙ p) in
        and_from (ltb n (length es + 1)) (has x (kids fs n)) (lt-ltb n (length es + 1) (omega (arith, w.0))) (rw (old_kids n w.0) w.1))
        (cases_Bool (has x (nodes ps))))
        (λ (e : x ≡ length es). absurd (none_some (at fs x).parent n (rw (e, new_at) refl) p))
        (way x lt)

    -- every other node stands for what it did
    pub built_others : (t : Texts) (m : ℕ) → m < length es → expr t fs m ≡ expr t es m
    built_others t m lt = frame t t es fs (length es) (length es + 1) s sound (λ n. n < length es) (λ n l. (l, omega arith, (kept n l).kind, old_links n l, (λ g. refl), λ x i. (s n x (under es (length es) n x l i)).0)) m lt

    pub built_sound : Sound fs (length fs)
    built_sound = subst (Sound fs) (sym length_new) sound

    pub built_single : Single es (length es) → Single fs (length fs)
    built_single g = subst (Single fs) (sym length_new) (single g)

    pub built_held : Held es (length es) → Held fs (length fs)
    built_held g = subst (Held fs) (sym length_new) (held g)
