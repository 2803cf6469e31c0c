use Rattle.std.proofs.Common.{◌≤◌, length, vec_items, vec_len}
use Rattle.script.specs.Places.{ArePartsInSource}
use Rattle.script.proofs.fields.Fields.more_operands.Given as goal

abbrev pub invariant-loop-word : goal.invariant-loop-word
invariant-loop-word l = (vec_len l.initial.parts ≤ vec_len l.parts) × ArePartsInSource (vec_items l.parts)

abbrev pub decreases-loop-word : goal.decreases-loop-word
decreases-loop-word l = length l.self.rest.now
