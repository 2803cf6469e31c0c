-- What is printed of a number, by what the tests of its kind say.
use Rattle.std.proofs.Common.{◌≡◌, ℕ, Bool, true, false, cond, List, [], ◌++◌, codes, Option, refl, ap, true≢false}
use mathlib.Core.Bool.{false≢true}
use lib.Ieee.{Float, nan, inf, fin, is_nan}
use lib.Utf8.{encode}
use Rattle.std.specs.Float.{float_is_infinite, is_sign_negative}
use Rattle.syntax.specs.Expr.{Expr}
use Rattle.forms.specs.declared.parens.Shape.TheVariants.{Numeral, Closed, Loose}
use Rattle.forms.specs.Form.{spell_number}
use Rattle.forms.specs.Parens.{shape}
use Rattle.forms.specs.Numerals.{Gives}
use Rattle.forms.specs.Printed.{printed}

-- ---- its shape

pub shape_nan : (x : Float) → is_nan x ≡ true → Closed ≡ shape (spell_number x)
unfolding is_nan
shape_nan nan t = refl
shape_nan (inf s) t = absurd (false≢true t)
shape_nan (fin s m e) t = absurd (false≢true t)

pub shape_infinite : (x : Float) → float_is_infinite x ≡ true → Loose ≡ shape (spell_number x)
unfolding float_is_infinite
shape_infinite nan t = absurd (false≢true t)
shape_infinite (inf s) t = refl
shape_infinite (fin s m e) t = absurd (false≢true t)

pub shape_negative : (x : Float) → is_nan x ≡ false → float_is_infinite x ≡ false → is_sign_negative x ≡ true → Loose ≡ shape (spell_number x)
unfolding is_nan float_is_infinite is_sign_negative
shape_negative nan t f n = absurd (true≢false t)
shape_negative (inf s) t f n = refl
shape_negative (fin true m e) t f n = refl
shape_negative (fin false m e) t f n = absurd (false≢true n)

pub shape_positive : (x : Float) → is_nan x ≡ false → float_is_infinite x ≡ false → is_sign_negative x ≡ false → Numeral ≡ shape (spell_number x)
unfolding is_nan float_is_infinite is_sign_negative
shape_positive nan t f n = absurd (true≢false t)
shape_positive (inf s) t f n = absurd (true≢false f)
shape_positive (fin true m e) t f n = absurd (true≢false n)
shape_positive (fin false m e) t f n = refl

-- ---- its bytes

module _ (w : Float → Option (List ℕ)) where
  pub number_nan : (x : Float) → is_nan x ≡ true → printed w (Expr.number x) ≡ codes "NaN"
  unfolding is_nan encode
  number_nan nan t = refl
  number_nan (inf s) t = absurd (false≢true t)
  number_nan (fin s m e) t = absurd (false≢true t)

  pub number_infinite : (x : Float) (s : Bool) (bytes : List ℕ) → float_is_infinite x ≡ true → is_sign_negative x ≡ s → Gives w x bytes → printed w (Expr.number x) ≡ cond s (codes "(-1)/0") (codes "1/0")
  unfolding float_is_infinite is_sign_negative encode
  number_infinite nan s bytes t n g = absurd (false≢true t)
  number_infinite (inf true) s bytes t n g = rw (g.0, g.1, ← n)
  number_infinite (inf false) s bytes t n g = rw (g.0, g.1, ← n)
  number_infinite (fin u m e) s bytes t n g = absurd (false≢true t)

  pub number_finite : (x : Float) (s : Bool) (bytes : List ℕ) → is_nan x ≡ false → float_is_infinite x ≡ false → is_sign_negative x ≡ s → Gives w x bytes → printed w (Expr.number x) ≡ cond s (codes "-") [] ++ bytes
  unfolding is_nan float_is_infinite is_sign_negative encode
  number_finite nan s bytes t f n g = absurd (true≢false t)
  number_finite (inf u) s bytes t f n g = absurd (true≢false f)
  number_finite (fin true m e) s bytes t f n g = rw (← n) (ap (λ r. codes "-" ++ r) g)
  number_finite (fin false m e) s bytes t f n g = rw (← n) g

pub ruleset shapes = (shape_nan, shape_infinite, shape_negative, shape_positive)

pub ruleset texts = (number_nan, number_infinite, number_finite)
