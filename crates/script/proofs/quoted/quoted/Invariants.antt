use Rattle.std.proofs.Common.{vec_items}
use Rattle.std.specs.Str.Iter.{chars_rest}
use Rattle.script.proofs.Texts.{Quoted}
use Rattle.script.proofs.quoted.quoted.Given as goal

abbrev pub invariant-loop-c : goal.invariant-loop-c
invariant-loop-c l = Quoted (chars_rest l.initial.chars) (chars_rest l.chars) (vec_items l.units)
