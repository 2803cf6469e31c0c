-- The fields that `whole_call` was given are those of the line after its first word.
use Rattle.std.proofs.Common.{sym, ap, ◌∙◌, subst}
use Rattle.script.specs.Calls.{Says}
use Rattle.script.specs.Words.{first_word, after_first}
use Rattle.script.proofs.lines.parse.Goals as goal

pub returns : goal.returns
returns c =
    let verb = c.in-Some.verb.now in
    let line = c.new-fields.ensures in (
      verb,
      sym (c.in-Some.ensures.value ∙ ap first_word line),
      subst (λ s. Says verb s c.in_ok-call.call) (c.word.ensures.after ∙ ap after_first line) c.in_ok-call.ensures,
    )
