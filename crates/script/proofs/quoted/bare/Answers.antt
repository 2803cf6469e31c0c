use Rattle.script.proofs.Texts.{spelt_units}
use Rattle.script.proofs.quoted.bare.Goals as goal

pub returns : goal.returns
returns c = spelt_units c.collect.result c.encode_utf16.result c.args.word.now c.encode_utf16.ensures.text c.encode_utf16.ensures.pending c.collect.ensures.ran
