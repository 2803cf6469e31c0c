use Rattle.std.proofs.Common.{◌≡◌, ℕ, false, length, Some, None, ap, arith, length-drop}
use Rattle.std.proofs.lemmas.Str.Pattern.{split_once_first}
use Rattle.script.specs.Words.{over}
use Rattle.script.proofs.Spaces.{unspaced_trim, none_at, word_at, all_word, none_after, unspaced-length, over_some}
use Rattle.script.proofs.fields.Fields.word.Goals as goal

pub returns-then-is_over : goal.returns-then-is_over
returns-then-is_over c =
    let s = c.args.self.now.rest.now in
    let t = c.trim_start_matches-text.result.now in
    let at = none_at s t (unspaced_trim s t c.trim_start_matches-text.ensures.matches) (cc) in
    record { value = at.0; after = at.1; shorter = tt }

pub returns-in-Some : goal.returns-in-Some
returns-in-Some c =
    let s = c.args.self.now.rest.now in
    let t = c.trim_start_matches-text.result.now in
    let trimmed = unspaced_trim s t c.trim_start_matches-text.ensures.matches in
    let parts = split_once_first 32 t (Some (c.in-Some.word, c.in-Some.rest)) c.in-Some.ensures.cases (omega arith) in
    let o : over t ≡ false = cc in
    let at = word_at s t _ _ trimmed o parts.1 parts.2 in
    record {
      value = at.0;
      after = at.1;
      shorter = omega (arith, ap length parts.2, length-drop {A = ℕ}, parts.0, ap length trimmed, unspaced-length s);
    }

pub returns-in-None : goal.returns-in-None
returns-in-None c =
    let s = c.args.self.now.rest.now in
    let t = c.trim_start_matches-text.result.now in
    let trimmed = unspaced_trim s t c.trim_start_matches-text.ensures.matches in
    let solid = split_once_first 32 t None c.in-None.ensures.cases (omega arith) in
    let o : over t ≡ false = cc in
    let at = word_at s t t _ trimmed o (all_word t solid) (none_after t solid) in
    record {
      value = at.0;
      after = at.1;
      shorter = omega (arith, over_some t o, ap length trimmed, unspaced-length s);
    }
