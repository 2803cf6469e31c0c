-- Numbers and their texts.
use Rattle.std.specs.Prelude.{◌≡◌, ℕ, ◌-◌, ◌^◌, ◌≤◌, true, false, List, pos, negsuc, Some, None, codes, decimal, Float}
use Rattle.std.specs.Float.{nan, inf, fin, binary64}
use Rattle.std.specs.Float.Ieee.{of_int}
use Rattle.writer.specs.Literal.{literal}
use Rattle.writer.specs.Texts.{short_decimal, plain_text, short_text}

-- n is written so by the plain and by the short writer
abbrev pub Written : ℕ → List ℕ → List ℕ → Type 0
Written n plain short = (plain_text (of_int binary64 (pos n)) ≡ Some plain) × (short_text (of_int binary64 (pos n)) ≡ Some short)

-- neither has a text for x
abbrev pub Unwritten : Float → Type 0
Unwritten x = (plain_text x ≡ None) × (short_text x ≡ None)

pub record Worked : Type 0 where
  pub nought : Written 0 (codes "0") (codes "0")
  pub one : Written 1 (codes "1") (codes "1")
  pub ten : Written 10 (codes "10") (codes "10")
  pub thousand : Written 1000 (codes "1000") (codes "1e3")
  pub many : Written 120000 (codes "120000") (codes "12e4")
  pub largest : Written 9007199254740991 (codes "9007199254740991") (codes "9007199254740991")
  pub minus_nought : Unwritten (fin true 0 (pos 0))
  pub half : Unwritten (fin false 1 (negsuc 0))
  pub too_large : Unwritten (of_int binary64 (pos 9007199254740992))
  pub no_number : Unwritten nan
  pub infinite : Unwritten (inf false)
  pub reads : literal (codes "12e4") ≡ Some 120000
  pub leading_zero : literal (codes "01") ≡ None
  pub no_exponent : literal (codes "1e") ≡ None

-- every integer up to 2 ^ 53 - 1 has its text
abbrev pub EveryInteger : Type 0
EveryInteger = (n : ℕ) → n ≤ 2 ^ 53 - 1 → Written n (decimal n) (short_decimal n)
