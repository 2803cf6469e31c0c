-- A cooked text is no longer than the raw one.
use Rattle.std.proofs.Common.{ℕ, ◌+◌, ◌≤◌, List, [], ◌∷◌, length, arith}
use Rattle.std.proofs.lemmas.Bool.Decides.{nat_tests}
use Rattle.std.proofs.lemmas.List.{length-append}
use Rattle.template.specs.declared.machine.State.{State}
use Rattle.template.specs.declared.machine.State.TheVariants.{Start, Dollar, Backslash, Zero, Unicode, Digits, Open, Braced, Lead, Bad}
use Rattle.template.specs.declared.machine.Step.{Step}
use Rattle.template.specs.Machine.{stepped, units, emitted}

-- how many units were read in a state, at least, that nothing was cooked for yet
abbrev owed : State → ℕ
owed Start = 0
owed Dollar = 0
owed Zero = 0
owed Backslash = 1
owed Unicode = 2
owed (Digits n v) = 2
owed Open = 2
owed (Braced v) = 2
owed Lead = 0
owed Bad = 0

-- a step cooks no more than what was owed and the unit that it reads
abbrev Pays : ℕ → Step → Type 0
Pays k z = length (units z.cooked) + owed z.next ≤ k + 1

pays : (s : State) (u : ℕ) → Pays (owed s) (stepped s u)
pays Start u = grind (arith, nat_tests)
pays Dollar u = grind (arith, nat_tests)
pays Zero u = grind (arith, nat_tests)
pays Backslash u = grind (arith, nat_tests)
pays Unicode u = grind (arith, nat_tests)
pays (Digits n v) u = grind (arith, nat_tests)
pays Open u = grind (arith, nat_tests)
pays (Braced v) u = grind (arith, nat_tests)
pays Lead u = grind (arith, nat_tests)
pays Bad u = omega arith

length-emitted : (us : List ℕ) (s : State) → length (emitted s us) ≤ length us + owed s
length-emitted [] s = omega arith
length-emitted (u ∷ us) s =
    let z = stepped s u in
    omega (arith, pays s u, length-emitted us z.next, length-append (units z.cooked) (emitted z.next us))

pub no_longer : (raw : List ℕ) → length (emitted Start raw) ≤ length raw
no_longer raw = omega (arith, length-emitted raw Start)
