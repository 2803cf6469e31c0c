use Rattle.std.proofs.Common.{vec_items, length}
use Rattle.script.specs.Places.{ArePartsInSource}
use Rattle.script.proofs.fields.Fields.substitutions.Given as goal

abbrev pub invariant-loop-word : goal.invariant-loop-word
invariant-loop-word l = ArePartsInSource (vec_items l.parts)

abbrev pub decreases-loop-word : goal.decreases-loop-word
decreases-loop-word l = length l.self.rest.now
