use Rattle.std.proofs.Common.{◌≡◌, ℕ, ◌+◌, refl, ap, ◌∙◌, rules, lit≤}
use borrow.Author.Tests.{tests}
use lib.Ieee.{Float, le, of_int, of_bits}
use Rattle.std.specs.List.{prefix_len}
use Rattle.std.proofs.lemmas.List.Folds.{length-prefix_len}
use Rattle.std.proofs.lemmas.Iterator.{YieldsList-from_slice}
use Rattle.std.proofs.lemmas.Iterator.Consumers.{count_from_yields_List}
use Rattle.std.proofs.lemmas.Iterator.Search.{YieldsList-from_take_while}
use Rattle.integers.specs.declared.digits.TheConstants.{POWERS}
use Rattle.integers.proofs.Tens.{powers, reached}
use Rattle.integers.proofs.digits.whole_digits.Goals as goal

powers_are : POWERS ≡ powers 22
unfolding of_bits of_int
powers_are = refl

pub returns-clause-value : goal.returns-clause-value
returns-clause-value c m e s =
    let test = λ (p : Float). le p c.args.magnitude in
    ap (λ (n : ℕ). n + 1)
    (count_from_yields_List c.take_while.result _ c.count-reached.ensures.ran (YieldsList-from_take_while _ test (YieldsList-from_slice POWERS cc) c.take_while.ensures.closure c.take_while.ensures.done (λ x r q k. search (rules, tests)))
    ∙ length-prefix_len test POWERS ∙ ap (prefix_len test) powers_are ∙ ap (λ (x : Float). prefix_len (λ p. le p x) (powers 22)) s ∙ reached 22 m e (lit≤ tt))
