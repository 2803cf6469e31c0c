-- The machine decides which texts are raw parts, and gives their only cooked text.
use Rattle.std.proofs.Common.{◌≡◌, ℕ, ◌<◌, ◌≤◌, ◌++◌, true, false, List, Some, None, length, take, drop, sym, ap, ◌∙◌, arith}
use Rattle.std.proofs.lemmas.Bool.{both_ways}
use Rattle.std.proofs.lemmas.Bool.Decides.{nat_tests}
use Rattle.std.proofs.lemmas.List.{take_at, drop_at}
use Rattle.template.specs.declared.machine.State.TheVariants.{Start}
use Rattle.template.specs.Raw.{Raw}
use Rattle.template.specs.Claims.{NoRawPart, CookedOnce, CookedInto}
use Rattle.template.specs.Machine.{ends, emitted, cooked_length, at_most, over}
use Rattle.template.proofs.Complete.{complete}
use Rattle.template.proofs.Sound.{sound}
use Rattle.template.proofs.Writes.{over_fits}

pub is_raw : (raw cooked : List ℕ) → ends Start raw ≡ true → emitted Start raw ≡ cooked → Raw raw cooked
is_raw raw cooked e is = rw is at (sound raw e)

pub no_raw : (raw : List ℕ) → ends Start raw ≡ false → NoRawPart raw
no_raw raw e cooked r = both_ways _ e (complete r).ended

pub cooked_once : CookedOnce
cooked_once raw cooked other r q = sym (complete r).gave ∙ (complete q).gave

module _ (raw : List ℕ) (room : ℕ) where
  measured : (k : ℕ) → Some k ≡ at_most room (cooked_length raw) → (ends Start raw ≡ true) × (length (emitted Start raw) ≡ k) × (k ≤ room)
  measured k e = grind (arith, nat_tests)

  pub no_room : None ≡ at_most room (cooked_length raw) → (cooked : List ℕ) → Raw raw cooked → room < length cooked
  no_room e cooked r =
      let long = rw (complete r).ended at e in
      grind (arith, nat_tests, ap length (complete r).gave)

pub cooked_into : (raw : List ℕ) (k : ℕ) (old : List ℕ) → Some k ≡ at_most (length old) (cooked_length raw) →
    CookedInto raw old (over (emitted Start raw) old) (Some k)
cooked_into raw k old e =
    let text = emitted Start raw in
    let is = measured raw (length old) k e in
    let whole : over text old ≡ text ++ drop (length text) old = over_fits text old (omega (arith, is.1, is.2)) in
    let out : over text old ≡ text ++ drop k old = rw is.1 at whole in
    let front : take k (over text old) ≡ text = ap (take k) out ∙ take_at text _ k is.1 in
    let rear : drop k (over text old) ≡ drop k old = ap (drop k) out ∙ drop_at text _ k is.1 in
    (is_raw _ _ is.0 (sym front), ap length front ∙ is.1, rear)
