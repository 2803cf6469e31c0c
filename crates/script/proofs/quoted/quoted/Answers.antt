use Rattle.std.proofs.Common.{◌≤◌, ◌≢◌, vec_items, arith}
use Rattle.std.specs.Str.Iter.{chars_rest}
use Rattle.std.proofs.lemmas.Option.{MatchOption-at_some}
use Rattle.script.specs.Units.{Escape}
use Rattle.script.proofs.Texts.{quoted_plain, quoted_escaped, quoted_close}
use Rattle.script.proofs.quoted.quoted.Goals as goal

pub returns-in-34 : goal.returns-in-34
returns-in-34 c = quoted_close _ _ _ c.in-Some.c _ c.loop-c.invariant c.in-Some.ensures.steps.0 c.in-34.is

escaped : (c : goal.In_ok-push-in-92) → Escape (chars_rest c.next.new.self) c.in_ok-ok_or-in-92.field-0 (chars_rest c.escape.new.chars)
escaped c = MatchOption-at_some (Unit {0}) _ c.in_ok-ok_or-in-92.field-0 c.in_ok-ok_or-in-92.ensures.ok_part c.escape.ensures

pub loop-c-preserved-in_ok-push-in-92 : goal.loop-c-preserved-in_ok-push-in-92
loop-c-preserved-in_ok-push-in-92 c =
    quoted_escaped _ _ _ c.in-Some.c c.in_ok-ok_or-in-92.field-0 _ _ _ c.loop-c.invariant c.in-Some.ensures.steps.0 c.in-92.is (escaped c) c.in_ok-push-in-92.ensures.items

pub loop-c-preserved : goal.loop-c-preserved
loop-c-preserved c =
    let k = c.in-Some.c in
    let low : 32 ≤ k = omega arith in
    let quote : k ≢ 34 = omega arith in
    let slash : k ≢ 92 = omega arith in
    quoted_plain (chars_rest c.args.chars.now) (chars_rest c.loop-c.chars) (vec_items c.loop-c.units) k (chars_rest c.next.new.self) (vec_items c.push_char.new.units) c.loop-c.invariant c.in-Some.ensures.steps.0 low quote slash c.in_ok-push_char-in_default-c.ensures
