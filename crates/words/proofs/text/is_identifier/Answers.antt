use Rattle.std.proofs.Common.{◌≡◌, ℕ, ◌-◌, ◌<◌, ◌≤◌, Bool, true, ◌&&◌, List, length, get_or, take, drop, sym, refl, ap, ◌∙◌, arith, rules, ltb-false}
use borrow.Author.Tests.{tests}
use Rattle.std.proofs.lemmas.Slice.{first_rest}
use Rattle.std.proofs.lemmas.Bool.{le-leb}
use Rattle.std.proofs.lemmas.Iterator.{YieldsList-from_slice}
use Rattle.std.proofs.lemmas.Iterator.Search.{all_from_yields_List}
use Rattle.words.specs.Words.{start, part, parts, identifier, identifier_name}
use Rattle.words.proofs.text.is_identifier.Goals as goal

abbrev tail : List ℕ → List ℕ
tail text = take (length text - 1) (drop 1 text)

-- past the tests of length and first unit, the rest decides
rest_decides : (text : List ℕ) (r : Bool) → 0 < length text → length text ≤ 64 → true ≡ start (get_or text 0 0) → r ≡ parts (tail text) → r ≡ identifier text
rest_decides text r h l s e =
    let t : (start (get_or text 0 0) && parts (tail text)) ≡ parts (tail text) = rw (sym s) refl in
    let n : identifier_name text ≡ (start (get_or text 0 0) && parts (tail text)) = ap identifier_name (first_rest text 0 h) in
    e ∙ sym (ap (λ b. b && identifier_name text) (le-leb (length text) 64 l) ∙ n ∙ t)

pub returns : goal.returns
returns c =
    rest_decides c.args.text.now _ (omega (arith, ltb-false)) (omega arith) c.if-not-is_start.ensures
    (all_from_yields_List part _ _ _ c.all.ensures.ran (YieldsList-from_slice (tail c.args.text.now) cc) (λ x b q k. search (rules, tests)))
