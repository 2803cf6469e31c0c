-- Words between spaces.
use Rattle.std.proofs.Common.{◌≡◌, ℕ, suc, ◌<◌, ◌≤◌, Bool, true, false, cond, eqb, List, [], ◌∷◌, length, drop, Some, None, sym, refl, ap, ◌∙◌, arith}
use lib.Utf8.{encode}
use Rattle.std.proofs.lemmas.Bool.{true≢false, cond-false, ne_eqb}
use Rattle.std.specs.Str.Pattern.{FindsCharPrefix, CutsPrefixes, IsFullyTrimmed, IsTrimStartMatches}
use Rattle.std.proofs.lemmas.Str.Pattern.{drop_at_char}
use Rattle.std.proofs.lemmas.Str.{len_utf8_ascii}
use Rattle.std.specs.List.{before_first, position_or_len}
use Rattle.std.specs.List as Lists
use Rattle.std.proofs.Math.ListN.{take, drop_of_length-le}
use Rattle.std.proofs.Math.Seq.{take-length}
use Rattle.script.specs.Words.{unspaced, is_space, over, blank, first_word, after_first}

unspaced_same : (s : List ℕ) → ((t : List ℕ) → s ≡ 32 ∷ t → ⊥) → unspaced s ≡ s
unspaced_same [] h = refl
unspaced_same (c ∷ cs) h = cond-false (eqb c 32) (unspaced cs) (c ∷ cs) (ne_eqb c 32 (λ e. h cs (ap (λ d. d ∷ cs) e)))

-- cutting spaces off the front
unspaced_cut : (ns s r : List ℕ) → CutsPrefixes (FindsCharPrefix 32) s ns r → unspaced r ≡ unspaced s
unspaced_cut [] s r e = ap unspaced e
unspaced_cut (n ∷ ns) s r h =
    let space : drop 0 h.0 ≡ 32 ∷ drop n h.0 = drop_at_char 32 h.0 0 n h.2 (omega arith) in
    ap unspaced h.3 ∙ sym (ap unspaced space) ∙ unspaced_cut ns s h.0 h.1

unspaced_trimmed : (r : List ℕ) → IsFullyTrimmed (FindsCharPrefix 32) r → unspaced r ≡ r
unfolding encode
unspaced_trimmed r (None, none, _) = unspaced_same r none
unspaced_trimmed r (Some n, space, empty) = absurd (omega (arith, space.ends, len_utf8_ascii 32, empty))

pub unspaced_trim : (s r : List ℕ) → IsTrimStartMatches (FindsCharPrefix 32) s r → r ≡ unspaced s
unspaced_trim s r h = sym (unspaced_trimmed r h.1) ∙ unspaced_cut h.0.0 s r h.0.1

by_space : (b : Bool) (c : ℕ) (t cs : List ℕ) → length t ≤ length cs → length (cond b t (c ∷ cs)) ≤ suc (length cs)
by_space true c t cs h = omega arith
by_space false c t cs h = omega arith

pub unspaced-length : (s : List ℕ) → length (unspaced s) ≤ length s
unspaced-length [] = omega arith
unspaced-length (c ∷ cs) = by_space (eqb c 32) c (unspaced cs) cs (unspaced-length cs)

pub over_some : (t : List ℕ) → over t ≡ false → 0 < length t
over_some [] e = absurd (true≢false e)
over_some (c ∷ cs) e = omega arith

pub none_at : (s t : List ℕ) → t ≡ unspaced s → over t ≡ true → (None ≡ first_word s) × (s ≡ after_first s)
none_at s t e o = let b : blank s ≡ true = sym (ap over e) ∙ o in (cc, cc)

pub word_at : (s t w u : List ℕ) → t ≡ unspaced s → over t ≡ false → w ≡ before_first is_space t → u ≡ Lists.after_first is_space t → (Some w ≡ first_word s) × (u ≡ after_first s)
word_at s t w u e o ew eu =
    let b : blank s ≡ false = sym (ap over e) ∙ o in (
      ap (λ z. Some z) ew ∙ ap (λ z. Some (before_first is_space z)) e ∙ sym (cond-false (blank s) None _ b),
      eu ∙ ap (λ z. Lists.after_first is_space z) e ∙ sym (cond-false (blank s) s _ b),
    )

-- no space is left in the last word
pub all_word : (t : List ℕ) → position_or_len is_space t ≡ length t → t ≡ before_first is_space t
all_word t e = sym (ap (λ n. take n t) e ∙ take-length t)

pub none_after : (t : List ℕ) → position_or_len is_space t ≡ length t → [] ≡ Lists.after_first is_space t
none_after t e = sym (drop_of_length-le t (omega (arith, e)))
