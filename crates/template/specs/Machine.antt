-- The machine that reads a raw part unit by unit, for the contracts of the private functions.
-- The public contracts speak of Raw alone.
use Rattle.std.specs.Prelude.{ℕ, ◌+◌, ◌-◌, ◌*◌, ◌/◌, ◌%◌, Bool, true, false, cond, List, [], ◌∷◌, ◌++◌, length, slice_set, Some, None, Option, ◌==◌, nat_le, nat_lt}
use Rattle.template.specs.declared.machine.State.{State}
use Rattle.template.specs.declared.machine.State.TheVariants.{Start, Dollar, Backslash, Zero, Unicode, Digits, Open, Braced, Lead, Bad}
use Rattle.template.specs.declared.machine.Cooked.{Cooked}
use Rattle.template.specs.declared.machine.Cooked.TheVariants.{Nothing, One, Two}
use Rattle.template.specs.declared.machine.Step.{Step}
use Rattle.units.specs.CodePoints.{is_lead, is_trail}
use Rattle.template.specs.Raw.{is_plain, is_non_escape, is_line, is_digit, hex_value, single_escape}

abbrev pub to : State → Cooked → Step
to s k = record { next = s; cooked = k }

abbrev pub bad : Step
bad = to Bad Nothing

-- a unit where a character begins
abbrev pub character : ℕ → Step
character u =
    cond (is_plain u) (to Start (One u))
    (cond (u == 0x5C) (to Backslash Nothing) (cond (u == 0x24) (to Dollar (One u)) (cond (is_lead u) (to Lead (One u)) bad)))

abbrev pub simple : Option ℕ → Step → Step
simple (Some v) other = to Start (One v)
simple None other = other

-- the unit after a backslash
abbrev pub escape : ℕ → Step
escape u =
    cond (is_non_escape u) (to Start (One u))
    (simple (single_escape u)
    (cond (is_line u) (to Start Nothing)
    (cond (u == 0x30) (to Zero (One 0))
    (cond (u == 0x78) (to (Digits 1 0) Nothing)
    (cond (u == 0x75) (to Unicode Nothing) (cond (is_lead u) (to Lead (One u)) bad))))))

-- the value with one more digit; one that is too large stays
abbrev pub grown : ℕ → Option ℕ → Option ℕ
grown v None = None
grown v (Some m) = Some (cond (nat_le v 0x10FFFF) (v * 16 + m) v)

abbrev pub code_point : ℕ → Step
code_point v =
    cond (nat_lt v 0x10000) (to Start (One v))
    (cond (nat_le v 0x10FFFF) (to Start (Two (0xD800 + (v - 0x10000) / 0x400) (0xDC00 + (v - 0x10000) % 0x400))) bad)

abbrev pub fixed : ℕ → Option ℕ → Step
fixed n None = bad
fixed n (Some v) = cond (n == 0) (code_point v) (to (Digits (n - 1) v) Nothing)

abbrev pub braced : Option ℕ → Step
braced None = bad
braced (Some v) = to (Braced v) Nothing

abbrev pub stepped : State → ℕ → Step
stepped Start u = character u
stepped Dollar u = cond (u == 0x7B) bad (character u)
stepped Zero u = cond (is_digit u) bad (character u)
stepped Backslash u = escape u
stepped Unicode u = cond (u == 0x7B) (to Open Nothing) (fixed 3 (grown 0 (hex_value u)))
stepped (Digits n v) u = fixed n (grown v (hex_value u))
stepped Open u = braced (grown 0 (hex_value u))
stepped (Braced v) u = cond (u == 0x7D) (code_point v) (braced (grown v (hex_value u)))
stepped Lead u = cond (is_trail u) (to Start (One u)) bad
stepped Bad u = bad

abbrev pub may_end : State → Bool
may_end Start = true
may_end Dollar = true
may_end Zero = true
may_end Backslash = false
may_end Unicode = false
may_end (Digits n v) = false
may_end Open = false
may_end (Braced v) = false
may_end Lead = false
may_end Bad = false

abbrev pub units : Cooked → List ℕ
units Nothing = []
units (One u) = u ∷ []
units (Two u v) = u ∷ v ∷ []

-- whether the text, read from that state on, ends where it may
abbrev pub ends : State → List ℕ → Bool
ends s [] = may_end s
ends s (u ∷ us) = ends (stepped s u).next us

-- what the text cooks to, read from that state on
abbrev pub emitted : State → List ℕ → List ℕ
emitted s [] = []
emitted s (u ∷ us) = units (stepped s u).cooked ++ emitted (stepped s u).next us

-- the length of what the text cooks to, where it ends well
abbrev pub cooked_length : List ℕ → Option ℕ
cooked_length raw = cond (ends Start raw) (Some (length (emitted Start raw))) None

-- a length, where it is no more than the room
abbrev pub at_most : ℕ → Option ℕ → Option ℕ
at_most room None = None
at_most room (Some k) = cond (nat_le k room) (Some k) None

-- units written from a place on, as far as the slice reaches
abbrev pub put : List ℕ → ℕ → List ℕ → List ℕ
put out at [] = out
put out at (u ∷ us) = put (slice_set out at u) (at + 1) us

-- a text over the front of a slice, as far as the slice reaches
abbrev pub over : List ℕ → List ℕ → List ℕ
over [] old = old
over (u ∷ us) [] = []
over (u ∷ us) (x ∷ old) = u ∷ over us old
