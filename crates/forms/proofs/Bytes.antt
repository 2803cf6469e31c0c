-- The bytes of each kind of expression, from those of its parts.
use Rattle.std.proofs.Common.{◌≡◌, ℕ, Bool, true, false, List, ◌++◌, codes, Option, refl, ap, ◌∙◌}
use lib.Ieee.{Float}
use lib.Utf8.{encode, encodes}
use Rattle.std.proofs.lemmas.Str.{encodes-append}
use Rattle.syntax.specs.Expr.{Expr, Exprs, Parts}
use Rattle.syntax.specs.Operators.{Bin, Numeric, Relation, Equality, bin_text, numeric_text, relation_text, equality_text}
use Rattle.forms.specs.declared.parens.Place.{Place}
use Rattle.forms.specs.declared.parens.Place.TheVariants.{Argument, Operand, Object}
use Rattle.units.specs.CodePoints.{code_points}
use Rattle.forms.specs.Form.{spell, spell_parts}
use Rattle.forms.specs.Parens.{parens, in_parens, shape}
use Rattle.forms.specs.Show.{show, show_parts, dot, mark}
use Rattle.forms.specs.Printed.{printed, printed_at, printed_arguments, printed_further, printed_parts}

-- ---- punctuation is ASCII

numeric_bytes : (o : Numeric) → encodes (numeric_text o) ≡ numeric_text o
unfolding encode
numeric_bytes Numeric.subtract = refl
numeric_bytes Numeric.multiply = refl
numeric_bytes Numeric.divide = refl
numeric_bytes Numeric.remainder = refl
numeric_bytes Numeric.power = refl
numeric_bytes Numeric.shift_left = refl
numeric_bytes Numeric.shift_right = refl
numeric_bytes Numeric.shift_right_zero = refl
numeric_bytes Numeric.bit_or = refl
numeric_bytes Numeric.bit_xor = refl
numeric_bytes Numeric.bit_and = refl

relation_bytes : (o : Relation) → encodes (relation_text o) ≡ relation_text o
unfolding encode
relation_bytes Relation.less = refl
relation_bytes Relation.less_equal = refl
relation_bytes Relation.greater = refl
relation_bytes Relation.greater_equal = refl

equality_bytes : (o : Equality) → encodes (equality_text o) ≡ equality_text o
unfolding encode
equality_bytes Equality.equal = refl
equality_bytes Equality.not_equal = refl
equality_bytes Equality.strict_equal = refl
equality_bytes Equality.strict_not_equal = refl

pub bin_bytes : (o : Bin) → encodes (bin_text o) ≡ bin_text o
unfolding encode
bin_bytes Bin.add = refl
bin_bytes (Bin.numeric o) = numeric_bytes o
bin_bytes (Bin.relation o) = relation_bytes o
bin_bytes (Bin.equality o) = equality_bytes o

dot_bytes : (m : Bool) → encodes (dot m) ≡ dot m
unfolding encode
dot_bytes true = refl
dot_bytes false = refl

mark_bytes : (m : Bool) → encodes (mark m) ≡ mark m
unfolding encode
mark_bytes true = refl
mark_bytes false = refl

pub parens_bytes : (b : Bool) (text : List ℕ) → encodes (parens b text) ≡ parens b (encodes text)
unfolding encode
parens_bytes true text = ap (λ r. codes "(" ++ r) (encodes-append text (codes ")"))
parens_bytes false text = refl

three : (a b c : List ℕ) → encodes (a ++ b ++ c) ≡ encodes a ++ encodes b ++ encodes c
three a b c = simp encodes-append

-- ---- each kind

module _ (w : Float → Option (List ℕ)) where
  -- an expression at a place: its own bytes, parenthesised or not
  printed_at_lem : (p : Place) (e : Expr) → printed_at w p e ≡ parens (in_parens p (shape (spell e))) (printed w e)
  printed_at_lem p e = parens_bytes (in_parens p (shape (spell e))) (show w (spell e))

  pub printed_parens : (p : Place) (e : Expr) → in_parens p (shape (spell e)) ≡ true → printed_at w p e ≡ codes "(" ++ printed w e ++ codes ")"
  printed_parens p e t = printed_at_lem p e ∙ ap (λ b. parens b (printed w e)) t

  pub printed_plain : (p : Place) (e : Expr) → in_parens p (shape (spell e)) ≡ false → printed_at w p e ≡ printed w e
  printed_plain p e f = printed_at_lem p e ∙ ap (λ b. parens b (printed w e)) f

  pub printed-binary : (o : Bin) (e f : Expr) → printed w (Expr.binary o e f) ≡ printed_at w Operand e ++ bin_text o ++ printed_at w Operand f
  printed-binary o e f = simp (encodes-append, bin_bytes)

  pub printed-template : (s : List ℕ) (ps : Parts) → printed w (Expr.template s ps) ≡ codes "`" ++ encodes (code_points s) ++ printed_parts w ps ++ codes "`"
  unfolding encode
  printed-template s ps = ap (λ r. codes "`" ++ r) (three (code_points s) (show_parts w (spell_parts ps)) (codes "`"))

  pub printed-member : (m : Bool) (e : Expr) (s : List ℕ) → printed w (Expr.member m e s) ≡ printed_at w Object e ++ dot m ++ encodes (code_points s)
  printed-member m e s = simp (encodes-append, dot_bytes)

  pub printed-index : (m : Bool) (e f : Expr) → printed w (Expr.index m e f) ≡ printed_at w Object e ++ mark m ++ codes "[" ++ printed w f ++ codes "]"
  unfolding encode
  printed-index m e f = simp (encodes-append, mark_bytes)

  pub printed-call : (m : Bool) (e : Expr) (es : Exprs) → printed w (Expr.call m e es) ≡ printed_at w Operand e ++ mark m ++ codes "(" ++ printed_arguments w es ++ codes ")"
  unfolding encode
  printed-call m e es = simp (encodes-append, mark_bytes)

  pub printed-sequence : (e : Expr) (es : Exprs) → printed w (Expr.sequence e es) ≡ printed_at w Operand e ++ printed_further w Operand es
  printed-sequence e es = simp encodes-append

  -- ---- their parts

  pub printed_arguments_lem : (e : Expr) (es : Exprs) → printed_arguments w (Exprs.more e es) ≡ printed_at w Argument e ++ printed_further w Argument es
  printed_arguments_lem e es = simp encodes-append

  pub printed_further_lem : (p : Place) (e : Expr) (es : Exprs) → printed_further w p (Exprs.more e es) ≡ codes "," ++ printed_at w p e ++ printed_further w p es
  unfolding encode
  printed_further_lem p e es = simp encodes-append

  pub printed_parts_lem : (e : Expr) (s : List ℕ) (ps : Parts) → printed_parts w (Parts.part e s ps) ≡ codes "${" ++ printed w e ++ codes "}" ++ encodes (code_points s) ++ printed_parts w ps
  unfolding encode
  printed_parts_lem e s ps =
      ap (λ r. codes "${" ++ r) (encodes-append (show w (spell e) ++ codes "}" ++ code_points s) (show_parts w (spell_parts ps)) ∙ ap (λ r. r ++ printed_parts w ps) (three (show w (spell e)) (codes "}") (code_points s)))
