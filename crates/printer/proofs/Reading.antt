-- A node of the tree, read off its entry.
use Rattle.std.proofs.Common.{◌≡◌, ℕ, ◌<◌, ◌≤◌, true, false, List, [], ◌∷◌, ◌++◌, length, codes, Option, refl, sym, ap, ◌∙◌, inl, inr, arith}
use lib.Ieee.{Float}
use Rattle.nodes.specs.declared.kind.Entry.{Entry}
use Rattle.nodes.specs.Meaning.{at, links_of, kids}
use Rattle.nodes.proofs.Laws.{unfold_expr, under}
use Rattle.nodes.proofs.Members.{In}
use Rattle.forms.specs.declared.parens.Place.{Place}
use Rattle.forms.specs.declared.parens.Shape.{Shape}
use Rattle.forms.specs.Form.{spell}
use Rattle.forms.specs.Parens.{in_parens, shape}
use Rattle.forms.specs.Printed.{printed, printed_at}
use Rattle.forms.proofs.Bytes.{printed_parens, printed_plain}
use Rattle.printer.specs.declared.view.View.{View}
use Rattle.printer.specs.Numbers.{AllBelow}
use Rattle.printer.specs.Shapes.{HasShape}
use Rattle.printer.specs.Views.{texts_of, expr_in, meaning_in, kids_in, InUse}
use Rattle.printer.proofs.Rows.{above}

all_below : (n : ℕ) (ms : List ℕ) → ((m : ℕ) → In m ms → m < n) → AllBelow n ms
all_below n [] f = tt
all_below n (m ∷ ms) f = (f m (inl refl), all_below n ms (λ k i. f k (inr i)))

not_above : (es : List Entry) (h : ℕ) (ms : List ℕ) → ((m : ℕ) → In m ms → (at es m).height < h) → above es ms ≤ h
not_above es h [] f = omega arith
not_above es h (m ∷ ms) f = let a = f m (inl refl) in let b = not_above es h ms (λ k i. f k (inr i)) in omega arith

module _ {W : Type 0} (v : View W) (n : ℕ) (here : n < length v.entries.now) where
  kid : (m : ℕ) → In m (kids v.entries.now n) → (m < length v.entries.now) × ((at v.entries.now m).height < (at v.entries.now n).height)
  kid m i = let w = v.sound n m (under v.entries.now (length v.entries.now) n m here i) in (w.0, w.1)

  -- its parts are in use, and lower
  pub parts_used : InUse v (kids_in v (at v.entries.now n).kind)
  parts_used = all_below (length v.entries.now) (kids v.entries.now n) (λ m i. (kid m i).0)

  pub parts_low : above v.entries.now (kids_in v (at v.entries.now n).kind) ≤ (at v.entries.now n).height
  parts_low = not_above v.entries.now (at v.entries.now n).height (kids v.entries.now n) (λ m i. (kid m i).1)

  -- ---- its text

  means : expr_in v n ≡ meaning_in v (at v.entries.now n).kind
  means = unfold_expr (texts_of v) v.entries.now (length v.entries.now) v.sound n here

  module _ (w : Float → Option (List ℕ)) (p : Place) {s : Shape} (shown : HasShape (at v.entries.now n).kind s) where
    stands : in_parens p (shape (spell (meaning_in v (at v.entries.now n).kind))) ≡ in_parens p s
    stands = ap (in_parens p) (sym (shown (texts_of v) (expr_in v) (links_of v.entries.now (at v.entries.now n).kind)))

    pub node_parens : true ≡ in_parens p s → codes "(" ++ printed w (meaning_in v (at v.entries.now n).kind) ++ codes ")" ≡ printed_at w p (expr_in v n)
    node_parens t = sym (ap (printed_at w p) means ∙ printed_parens w p _ (stands ∙ sym t))

    pub node_plain : false ≡ in_parens p s → printed w (meaning_in v (at v.entries.now n).kind) ≡ printed_at w p (expr_in v n)
    node_plain f = sym (ap (printed_at w p) means ∙ printed_plain w p _ (stands ∙ sym f))

pub ruleset parts = (parts_used, parts_low)
