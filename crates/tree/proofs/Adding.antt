-- A tree with a new node keeps what a tree keeps, and says what was built.
use Rattle.std.proofs.Common.{◌≡◌, ℕ, ◌+◌, ◌<◌, Bool, true, List, length, sym, refl, ap, ◌∙◌, subst, ⊎_elim, arith}
use Rattle.std.proofs.lemmas.Bool.{cases_eq, and_parts, and_from, le-leb}
use Rattle.nodes.specs.declared.kind.Kind.{Kind}
use Rattle.nodes.specs.declared.kind.Entry.{Entry}
use Rattle.nodes.specs.declared.shape.Part.{Part}
use Rattle.nodes.specs.declared.shape.Shape.{Shape}
use Rattle.nodes.specs.declared.shape.Shape.TheVariants as S
use Rattle.nodes.specs.Meaning.{no_span, at}
use Rattle.nodes.specs.Put.{kind_of, tallest, with_added}
use Rattle.nodes.proofs.Building.{new_at, old_kind, old_after, old_parents, length_new}
use Rattle.nodes.proofs.NewNode.{new_sound, new_held, new_single, new_others, new_stands, new_levels}
use Rattle.tree.specs.State.{Keeps, State, used, span_fits, kind_fits, Fitting}
use Rattle.tree.specs.Calls.{name_listed, ShapeFits, Buildable, Built}

-- the kind of a new node refers to what is there
kind_fits_lem : (written : Bool) (a : State) (sh : Shape) (ps : List Part) → name_listed a sh ≡ true → ShapeFits written a sh → kind_fits a.texts (kind_of sh ps) ≡ true
kind_fits_lem w a (S.Number x) ps n f = refl
kind_fits_lem w a (S.String s) ps n f = f.1
kind_fits_lem w a (S.Boolean b) ps n f = refl
kind_fits_lem w a S.Null ps n f = refl
kind_fits_lem w a (S.Name i) ps n f = n
kind_fits_lem w a S.EmptyArray ps n f = refl
kind_fits_lem w a (S.Unary o) ps n f = refl
kind_fits_lem w a (S.Binary o) ps n f = refl
kind_fits_lem w a (S.Template s) ps n f = f.0.1
kind_fits_lem w a (S.Member s m) ps n f = f.0.1
kind_fits_lem w a (S.Index m) ps n f = refl
kind_fits_lem w a (S.Call m) ps n f = refl
kind_fits_lem w a S.Chain ps n f = refl
kind_fits_lem w a S.Sequence ps n f = refl

abbrev pub with_entries : State → List Entry → State
with_entries a es = record { entries = es; capacity = a.capacity; texts = a.texts; classes = a.classes; root = a.root; room = a.room }

module _ (written : Bool) (a : State) (sh : Shape) (ps : List Part) (k : Keeps a) (ok : Buildable written a sh ps) where
  abbrev height : ℕ
  height = tallest a.entries ps + 4

  abbrev fs : List Entry
  fs = with_added a.entries (kind_of sh ps) height ps

  long : length fs ≡ used a + 1
  long = length_new a.entries (kind_of sh ps) height ps k.sound ok.1.0

  fitting : Fitting a.texts fs
  fitting n lt =
      ⊎_elim
      (λ (e : n ≡ used a).
      rw (e, new_at a.entries (kind_of sh ps) height ps k.sound ok.1.0)
      (and_from (kind_fits a.texts (kind_of sh ps)) (span_fits a.texts no_span)
      (kind_fits_lem written a sh ps ok.1.1 ok.2.1) (le-leb 0 (length a.texts.source) (omega arith))))
      (λ (ne : n ≡ used a → ⊥).
      let lo : n < used a = omega (arith, long) in
      let w = and_parts (kind_fits a.texts (at a.entries n).kind) (span_fits a.texts (at a.entries n).after) (k.fitting n lo) in
      and_from (kind_fits a.texts (at fs n).kind) (span_fits a.texts (at fs n).after)
      (rw (old_kind a.entries (kind_of sh ps) height ps k.sound ok.1.0 n lo) w.0)
      (old_after a.entries (kind_of sh ps) height ps k.sound ok.1.0 (λ s. span_fits a.texts s ≡ true) (λ i p l. (ok.2.2 i p l).0.1) n lo w.1))
      (cases_eq n (used a))

  keeps : Keeps (with_entries a fs)
  keeps = record {
    sound = new_sound a.texts a.entries sh ps k.sound ok.1.0 ok.2.0;
    held = new_held a.texts a.entries sh ps k.sound ok.1.0 ok.2.0 k.held;
    single = new_single a.texts a.entries sh ps k.sound ok.1.0 ok.2.0 k.single;
    fitting = fitting;
    levelled = λ r. new_levels a.texts a.entries sh ps k.sound ok.1.0 ok.2.0 (k.levelled r);
    rooted = λ n r. let w = k.rooted n r in omega (arith, long);
  }

  says : Built written a sh ps (used a) (with_entries a fs)
  says = record {
    asked = ok;
    number = refl;
    count = omega (arith, long);
    stands = new_stands a.texts a.entries sh ps k.sound ok.1.0 ok.2.0;
    others = new_others a.texts a.entries sh ps k.sound ok.1.0 ok.2.0;
    top = ap (λ (y : Entry). y.parent) (new_at a.entries (kind_of sh ps) height ps k.sound ok.1.0);
    parents = old_parents a.entries (kind_of sh ps) height ps k.sound ok.1.0;
    capacity = refl;
    texts = refl;
    classes = refl;
    root = refl;
    room = refl;
  }

  -- the same of entries that are those with the new node
  pub added : (es : List Entry) (kd : Kind) (h : ℕ) → es ≡ with_added a.entries kd (h + 4) ps → kd ≡ kind_of sh ps → h ≡ tallest a.entries ps → Keeps (with_entries a es) × Built written a sh ps (used a) (with_entries a es)
  added es kd h w e f = let same : es ≡ fs = w ∙ rw (e, f) refl in subst (λ (xs : List Entry). Keeps (with_entries a xs) × Built written a sh ps (used a) (with_entries a xs)) (sym same) (keeps, says)
