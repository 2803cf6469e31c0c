-- Worked examples of printing, which together use every kind of expression and every rule of its text.
use Rattle.std.specs.Prelude.{◌≡◌, ℕ, ◌*◌, ◌^◌, true, false, List, [], ◌∷◌, pos, negsuc, Some, None, codes, decimal, Option, Float}
use Rattle.std.specs.Float.{nan, inf, fin}
use Rattle.syntax.specs.Expr.{Expr, number, string, boolean, null, name, array, unary, binary, template, member, index, call, chain, sequence, end, more, done, part}
use Rattle.syntax.specs.Operators.{Un, Bin, Numeric, Relation, Equality}
use Rattle.forms.specs.Form.{spell}
use Rattle.forms.specs.Show.{show}

-- a number writer that has a text for whole numbers alone
abbrev pub whole : Float → Option (List ℕ)
whole nan = None
whole (inf s) = None
whole (fin s m (pos e)) = Some (decimal (m * 2 ^ e))
whole (fin s m (negsuc e)) = None

-- the expression e prints as the text cs
abbrev pub Prints : Expr → List ℕ → Type 0
Prints e cs = show whole (spell e) ≡ cs

-- ---- parts of the examples

abbrev pub a : Expr
a = name (codes "a")

abbrev pub b : Expr
b = name (codes "b")

abbrev pub f : Expr
f = name (codes "f")

abbrev pub one : Expr
one = number (fin false 1 (pos 0))

abbrev pub minus_one : Expr
minus_one = number (fin true 1 (pos 0))

abbrev pub negate : Expr → Expr
negate e = unary Un.minus e

abbrev pub plus : Expr → Expr → Expr
plus e g = binary Bin.add e g

abbrev pub minus : Expr → Expr → Expr
minus e g = binary (Bin.numeric Numeric.subtract) e g

-- `a,b`
abbrev pub row : Expr
row = sequence a (more b end)

-- `a?.b`, by itself and under its chain
abbrev pub open_link : Expr
open_link = member true a (codes "b")

abbrev pub link : Expr
link = chain open_link

-- ---- the examples

abbrev pub Numbers : Type 0
Numbers =
    Prints (number (fin false 5 (pos 1))) (codes "10")
    × Prints (number (fin true 0 (pos 0))) (codes "-0")
    × Prints minus_one (codes "-1")
    × Prints (number (inf false)) (codes "1/0")
    × Prints (number (inf true)) (codes "(-1)/0")
    × Prints (number nan) (codes "NaN")
    × Prints (number (fin false 1 (negsuc 0))) (codes "")

abbrev pub NumbersAsParts : Type 0
NumbersAsParts =
    Prints (minus a minus_one) (codes "a-(-1)")
    × Prints (plus (number (inf false)) (number (inf true))) (codes "(1/0)+((-1)/0)")
    × Prints (negate (number nan)) (codes "-NaN")
    × Prints (member false one (codes "x")) (codes "(1).x")
    × Prints (index false one minus_one) (codes "(1)[-1]")
    × Prints (member false minus_one (codes "x")) (codes "(-1).x")
    × Prints (member false (number nan) (codes "x")) (codes "NaN.x")
    × Prints (member false (number (inf false)) (codes "x")) (codes "(1/0).x")
    × Prints (call false one end) (codes "1()")
    × Prints (call false minus_one (more minus_one (more (number (inf false)) end))) (codes "(-1)(-1,1/0)")

-- a quote, a backslash, a line feed, a carriage return, a letter; a lone lead and a lone trail; a pair
abbrev pub Strings : Type 0
Strings =
    Prints (string (0x22 ∷ 0x5C ∷ 0x0A ∷ 0x0D ∷ 0x41 ∷ [])) (codes "\"\\\"\\\\\\n\\rA\"")
    × Prints (string (0xD800 ∷ 0x41 ∷ 0xDFAB ∷ [])) (codes "\"\\ud800A\\udfab\"")
    × Prints (string (0xD83D ∷ 0xDE00 ∷ [])) (codes "\"😀\"")
    × Prints (string []) (codes "\"\"")

abbrev pub Operations : Type 0
Operations =
    Prints (unary Un.typeof (unary Un.void one)) (codes "typeof (void 1)")
    × Prints (unary Un.not (unary Un.bit_not (unary Un.plus (negate a)))) (codes "!(~(+(-a)))")
    × Prints (binary (Bin.equality Equality.strict_equal) (binary (Bin.relation Relation.less) a b) (boolean true)) (codes "(a<b)===true")
    × Prints (binary (Bin.numeric Numeric.shift_right_zero) null (boolean false)) (codes "null>>>false")
    × Prints (sequence row (more (negate a) (more one end))) (codes "(a,b),(-a),1")

abbrev pub Templates : Type 0
Templates =
    Prints (template (codes "x") done) (codes "`x`")
    × Prints (template [] (part row (codes "y") (part minus_one [] done))) (codes "`${a,b}y${-1}`")
    × Prints (plus (plus (name (codes "seats")) (string [])) (template [] (part (call false (name (codes "draw")) end) [] done))) (codes "(seats+\"\")+`${draw()}`")

abbrev pub Links : Type 0
Links =
    Prints (chain (member false open_link (codes "c"))) (codes "a?.b.c")
    × Prints (member false link (codes "c")) (codes "(a?.b).c")
    × Prints (chain (index true array row)) (codes "[]?.[a,b]")
    × Prints (chain (call true f (more a (more row (more (negate b) end))))) (codes "f?.(a,(a,b),-b)")
    × Prints (call false (member false (index false (string (codes "s")) a) (codes "t")) (more row end)) (codes "\"s\"[a].t((a,b))")
    × Prints (call false link (more link end)) (codes "(a?.b)(a?.b)")
    × Prints (chain link) (codes "(a?.b)")
    × Prints (member false (template [] done) (codes "length")) (codes "``.length")

abbrev pub Examples : Type 0
Examples = Numbers × NumbersAsParts × Strings × Operations × Templates × Links
