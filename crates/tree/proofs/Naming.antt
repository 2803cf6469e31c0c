-- One name more leaves every node what it was.
use Rattle.std.proofs.Common.{◌≡◌, ℕ, ◌*◌, ◌<◌, Bool, true, false, List, [], ◌∷◌, ◌++◌, length, set, is_some, Some, None, Option, sym, refl, ap, ◌∙◌, arith, length-append}
use Rattle.std.proofs.lemmas.Bool.{and_parts, and_from, ltb-true, lt-ltb}
use Rattle.std.proofs.lemmas.List.{get_or_append_left}
use Rattle.units.specs.declared.span.Span.{Span}
use Rattle.syntax.specs.Expr.{Expr, Parts, levels}
use Rattle.nodes.specs.declared.kind.Kind.{Kind}
use Rattle.nodes.specs.declared.kind.Kind.TheVariants as K
use Rattle.nodes.specs.declared.kind.Entry.{Entry}
use Rattle.nodes.specs.Meaning.{Texts, units_of, at, links_of, parts_of, expr, Sound}
use Rattle.nodes.proofs.Laws.{Same, frame, under}
use Rattle.names.specs.declared.table.Class.{Class}
use Rattle.names.specs.Table.{NotBefore, FirstAt}
use Rattle.tree.specs.State.{Keeps, State, span_fits, kind_fits, Fitting, Levelled}
use Rattle.tree.specs.Calls.{name_fits, Listable, Named}

abbrev pub more : Texts → List ℕ → Texts
more t x = record { names = t.names ++ (x ∷ []); source = t.source; folded = t.folded }

module _ (t : Texts) (x : List ℕ) where
  parts_same : (g : ℕ → Expr) (ls : List (ℕ × Span)) → parts_of (more t x) g ls ≡ parts_of t g ls
  parts_same g [] = refl
  parts_same g (l ∷ ls) = ap (Parts.part (g l.0) (units_of t l.1)) (parts_same g ls)

  same : (k : Kind) (ls : List (ℕ × Span)) → kind_fits t k ≡ true → Same t (more t x) k ls
  same K.Null ls f g = refl
  same (K.Number y) ls f g = refl
  same (K.String s) ls f g = refl
  same (K.Boolean b) ls f g = refl
  same (K.Name i) ls f g = ap Expr.name (get_or_append_left t.names (x ∷ []) [] i (ltb-true i (length t.names) f))
  same K.EmptyArray ls f g = refl
  same (K.Unary o a) ls f g = refl
  same (K.Binary o a b) ls f g = refl
  same (K.Template s r) ls f g = ap (Expr.template (units_of t s)) (parts_same g ls)
  same (K.Member a s m) ls f g = refl
  same (K.Index a b m) ls f g = refl
  same (K.Call a r m) ls f g = refl
  same (K.Chain a) ls f g = refl
  same (K.Sequence a r) ls f g = refl

  kind_fits_lem : (k : Kind) → kind_fits t k ≡ true → kind_fits (more t x) k ≡ true
  kind_fits_lem K.Null f = refl
  kind_fits_lem (K.Number y) f = refl
  kind_fits_lem (K.String s) f = f
  kind_fits_lem (K.Boolean b) f = refl
  kind_fits_lem (K.Name i) f = let lt = ltb-true i (length t.names) f in lt-ltb i (length (t.names ++ (x ∷ []))) (simp length-append (omega arith))
  kind_fits_lem K.EmptyArray f = refl
  kind_fits_lem (K.Unary o a) f = refl
  kind_fits_lem (K.Binary o a b) f = refl
  kind_fits_lem (K.Template s r) f = f
  kind_fits_lem (K.Member a s m) f = f
  kind_fits_lem (K.Index a b m) f = refl
  kind_fits_lem (K.Call a r m) f = refl
  kind_fits_lem (K.Chain a) f = refl
  kind_fits_lem (K.Sequence a r) f = refl

  module _ (es : List Entry) (s : Sound es (length es)) (ft : Fitting t es) where
    halves : (n : ℕ) → n < length es → (kind_fits t (at es n).kind ≡ true) × (span_fits t (at es n).after ≡ true)
    halves n lt = and_parts (kind_fits t (at es n).kind) (span_fits t (at es n).after) (ft n lt)

    pub named_others : (n : ℕ) → n < length es → expr (more t x) es n ≡ expr t es n
    named_others n lt = frame t (more t x) es es (length es) (length es) s s (λ m. m < length es)
        (λ m l. (l, l, refl, refl, same (at es m).kind (links_of es (at es m).kind) (halves m l).0, λ k i. (s m k (under es (length es) m k l i)).0)) n lt

    pub named_fitting : Fitting (more t x) es
    named_fitting n lt = let w = halves n lt in and_from (kind_fits (more t x) (at es n).kind) (span_fits t (at es n).after) (kind_fits_lem (at es n).kind w.0) w.1

    pub named_levelled : (root : Option ℕ) → Levelled root t es → Levelled root (more t x) es
    named_levelled root l r n lt = l r n lt ∙ ap (λ (e : Expr). 4 * levels e) (sym (named_others n lt))

pub set_last : {X : Type 0} (xs : List X) (y z : X) (i : ℕ) → length xs ≡ i → set (xs ++ (y ∷ [])) i z ≡ xs ++ (z ∷ [])
set_last xs y z i e = rw (sym e) (go xs)
  where
    go : (xs : List _) → set (xs ++ (y ∷ [])) (length xs) z ≡ xs ++ (z ∷ [])
    go [] = refl
    go (x ∷ xs) = ap (λ ys. x ∷ ys) (go xs)

pub not_found : (ts : List (List ℕ)) (x : List ℕ) (o : Option ℕ) (b : Bool) → FirstAt ts x o → b ≡ is_some o → b ≡ false → NotBefore ts x (length ts)
not_found ts x None b f e n = f
not_found ts x (Some i) b f e n = let z : ◌≡◌ {A = ℕ} 0 1 = cc in absurd (omega arith)

abbrev pub with_names : State → List (List ℕ) → List Class → State
with_names a ns cs = record { entries = a.entries; capacity = a.capacity; texts = record { names = ns; source = a.texts.source; folded = a.texts.folded }; classes = cs; root = a.root; room = a.room }

-- a tree with one name more keeps what a tree keeps, and says what was listed
pub named : (a : State) (x : List ℕ) (c : Class) (i : ℕ) (ns : List (List ℕ)) (cs : List Class) → Keeps a → (a.root ≡ None) × (name_fits a x c ≡ true) × Listable a x
    → i ≡ length a.texts.names → ns ≡ a.texts.names ++ (x ∷ []) → cs ≡ a.classes ++ (c ∷ []) → Keeps (with_names a ns cs) × Named a x c i (with_names a ns cs)
named a x c i ns cs k ok e f g =
    rw (f, g) (
      record {
        sound = k.sound;
        held = k.held;
        single = k.single;
        fitting = named_fitting a.texts x a.entries k.sound k.fitting;
        levelled = named_levelled a.texts x a.entries k.sound k.fitting a.root k.levelled;
        rooted = k.rooted;
      },
      record {
        asked = ok;
        number = e;
        names = refl;
        classes = refl;
        source = refl;
        folded = refl;
        entries = refl;
        capacity = refl;
        root = refl;
        room = refl;
        others = named_others a.texts x a.entries k.sound k.fitting;
      },
    )
