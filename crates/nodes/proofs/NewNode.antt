-- What the entries with a new node keep, and what the new node stands for.
use Rattle.std.proofs.Common.{◌≡◌, ℕ, ◌+◌, ◌*◌, ◌<◌, true, List, length, Some, sym, refl, ap, ◌∙◌, subst, ⊎_elim, arith}
use Rattle.std.proofs.lemmas.Bool.{cases_eq}
use Rattle.syntax.specs.Expr.{Expr, levels}
use Rattle.nodes.specs.declared.kind.Entry.{Entry}
use Rattle.nodes.specs.declared.shape.Part.{Part}
use Rattle.nodes.specs.declared.shape.Shape.{Shape}
use Rattle.nodes.specs.Meaning.{Texts, at, links, links_of, kids_of, mean, expr, Sound, Held, Single}
use Rattle.nodes.specs.Made.{given, made, count_fits, nodes, free}
use Rattle.nodes.specs.Put.{first_of, kind_of, tallest, with_added}
use Rattle.nodes.proofs.Members.{In}
use Rattle.nodes.proofs.Laws.{mean-cong, unfold_expr}
use Rattle.nodes.proofs.Building.{pairs, free_each, new_at, new_row, length_new, old_height, built_sound, built_single, built_held, built_others}
use Rattle.nodes.proofs.Standing.{stands}
use Rattle.nodes.proofs.Counting.{makes}
use Rattle.nodes.proofs.Levels.{made-levels, tallest-deepest, below_tallest}

module _ (t : Texts) (es : List Entry) (sh : Shape) (ps : List Part) (s : Sound es (length es)) (fr : free es ps ≡ true) (cf : count_fits sh (length ps) ≡ true) where
  abbrev pub fs : List Entry
  fs = with_added es (kind_of sh ps) (tallest es ps + 4) ps

  made_expr : (e : Expr) × (made t sh (given t es ps) ≡ Some e)
  made_expr = makes t es sh ps cf

  row : links fs (length ps) (first_of ps) ≡ pairs ps
  row = new_row es (kind_of sh ps) (tallest es ps + 4) ps s fr

  meant : (kids_of (kind_of sh ps) (links_of fs (kind_of sh ps)) ≡ nodes ps) × (mean t (expr t es) (kind_of sh ps) (links_of fs (kind_of sh ps)) ≡ made_expr.0)
  meant = stands t es fs (expr t es) sh ps made_expr.0 (row, λ x i. refl) made_expr.1

  tall : (x : ℕ) → In x (nodes ps) → (at es x).height < tallest es ps + 4
  tall x i = let w = below_tallest es ps x i in omega arith

  pub new_sound : Sound fs (length fs)
  new_sound = built_sound es (kind_of sh ps) (tallest es ps + 4) ps s fr meant.0 tall

  pub new_single : Single es (length es) → Single fs (length fs)
  new_single = built_single es (kind_of sh ps) (tallest es ps + 4) ps s fr meant.0 tall

  pub new_held : Held es (length es) → Held fs (length fs)
  new_held = built_held es (kind_of sh ps) (tallest es ps + 4) ps s fr meant.0 tall

  pub new_others : (m : ℕ) → m < length es → expr t fs m ≡ expr t es m
  new_others = built_others es (kind_of sh ps) (tallest es ps + 4) ps s fr meant.0 tall t

  stands_for : expr t fs (length es) ≡ made_expr.0
  stands_for =
      unfold_expr t fs (length fs) new_sound (length es) (omega (arith, length_new es (kind_of sh ps) (tallest es ps + 4) ps s fr))
      ∙ rw (new_at es (kind_of sh ps) (tallest es ps + 4) ps s fr)
      (mean-cong t (expr t fs) (expr t es) (kind_of sh ps) (links_of fs (kind_of sh ps)) (λ x i. new_others x (free_each es ps fr x (subst (In x) meant.0 i)).0) ∙ meant.1)

  pub new_stands : made t sh (given t es ps) ≡ Some (expr t fs (length es))
  new_stands = made_expr.1 ∙ ap Some (sym stands_for)

  pub new_levels : ((n : ℕ) → n < length es → (at es n).height ≡ 4 * levels (expr t es n)) → (n : ℕ) → n < length fs → (at fs n).height ≡ 4 * levels (expr t fs n)
  new_levels l n lt =
      let long = length_new es (kind_of sh ps) (tallest es ps + 4) ps s fr in
      ⊎_elim
      (λ (e : n ≡ length es).
      let a = made-levels t sh (given t es ps) (expr t fs (length es)) new_stands in
      let b = tallest-deepest 4 t es ps (λ x i. l x (free_each es ps fr x i).0) in
      rw (e, new_at es (kind_of sh ps) (tallest es ps + 4) ps s fr, a) (omega arith))
      (λ (ne : n ≡ length es → ⊥).
      let lo : n < length es = omega arith in
      rw (old_height es (kind_of sh ps) (tallest es ps + 4) ps s fr n lo, new_others n lo) (l n lo))
      (cases_eq n (length es))
