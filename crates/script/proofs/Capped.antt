-- Counting no further than the largest `usize` leaves what counts as that.
use Rattle.std.proofs.Common.{◌≡◌, ℕ, ◌+◌, ◌-◌, ◌*◌, ◌^◌, ◌<◌, min, Bool, true, false, cond, List, [], ◌∷◌, length, get_or, drop, None, Option, sym, refl, ap, ◌∙◌, arith}
use Rattle.std.specs.Option.{option_map}
use Rattle.std.specs.Char.{is_ascii_digit}
use Rattle.std.proofs.lemmas.List.{at_drop_more}
use Rattle.script.specs.Numbers.{value_after}

abbrev pub capped : Option ℕ → Option ℕ
capped = option_map (λ n. min n (2 ^ 64 - 1))

by_digit : (b : Bool) (x y : Option ℕ) → capped x ≡ capped y → capped (cond b x None) ≡ capped (cond b y None)
by_digit true x y e = e
by_digit false x y e = refl

same_rest : (m n : ℕ) (cs : List ℕ) → min m (2 ^ 64 - 1) ≡ min n (2 ^ 64 - 1) → capped (value_after m cs) ≡ capped (value_after n cs)
same_rest m n [] e = cc
same_rest m n (c ∷ cs) e = by_digit (is_ascii_digit c) _ _ (same_rest (m * 10 + (c - 48)) (n * 10 + (c - 48)) cs (omega arith))

pub more :
    (v w : ℕ) (xs : List ℕ) (i : ℕ) →
    i < length xs →
    is_ascii_digit (get_or xs i 0) ≡ true →
    min w (2 ^ 64 - 1) ≡ min (v * 10 + (get_or xs i 0 - 48)) (2 ^ 64 - 1) →
    capped (value_after w (drop (i + 1) xs)) ≡ capped (value_after v (drop i xs))
more v w xs i l d e =
    same_rest w (v * 10 + (get_or xs i 0 - 48)) (drop (i + 1) xs) e
    ∙ sym (at_drop_more (λ ys. capped (value_after v ys)) xs i 0 l ∙ ap (λ b. capped (cond b (value_after (v * 10 + (get_or xs i 0 - 48)) (drop (i + 1) xs)) None)) d)
