use Rattle.std.specs.Str.Iter.{chars_rest}
use Rattle.script.proofs.Texts.{short_found, long_found}
use Rattle.script.proofs.quoted.escape.Goals as goal

pub returns-in-u : goal.returns-in-u
returns-in-u c =
    long_found c.hex_unit.result c.in_ok-c.c (chars_rest c.args.chars.now) (chars_rest c.next.new.self) (chars_rest c.hex_unit.new.chars) c.in_ok-c.ensures.steps.0 c.in-u.is c.hex_unit.ensures

pub returns-in_default : goal.returns-in_default
returns-in_default c =
    short_found c.short_escape.result c.in_ok-c.c (chars_rest c.args.chars.now) (chars_rest c.next.new.self) c.in_ok-c.ensures.steps.0 c.short_escape.ensures
