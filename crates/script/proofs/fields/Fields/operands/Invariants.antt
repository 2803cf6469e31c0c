use Rattle.std.proofs.Common.{◌≡◌, vec_items, vec_len}
use Rattle.script.specs.Places.{ArePartsInSource}
use Rattle.script.proofs.fields.Fields.operands.Given as goal

abbrev pub invariant-loop-taken : goal.invariant-loop-taken
invariant-loop-taken l = (vec_len l.parts ≡ l.taken) × ArePartsInSource (vec_items l.parts)
