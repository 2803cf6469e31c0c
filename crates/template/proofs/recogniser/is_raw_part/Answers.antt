use Rattle.std.proofs.Common.{◌≡◌, [], refl, ◌∙◌, ap, rules, append-nil}
use Rattle.std.proofs.lemmas.Fn.{fold_over, slice_gives, fronts}
use Rattle.template.specs.declared.machine.State.TheVariants.{Start}
use Rattle.template.specs.Machine.{ends, emitted}
use Rattle.template.proofs.Parts.{is_raw, no_raw, cooked_once}
use Rattle.template.proofs.Turns.{Read, read_more}
use Rattle.template.proofs.recogniser.is_raw_part.Goals as goal

pub returns : goal.returns
returns c =
    let xs = c.args.text.now in
    let read : Read c.iter.result.rest.now c.fold-last.result =
    fold_over fronts (λ y. y.now) _ Read _
    (λ front s u next f' read call. (read_more front s next u.now read (search rules), search rules))
    _ _ _ _ (slice_gives c.iter.result) (λ more. refl) c.fold-last.ensures.ran in
    let is : c.may_end.result ≡ ends Start xs = c.may_end.ensures ∙ read [] ∙ ap (ends Start) (append-nil _ ∙ c.iter.ensures.rest) in
    record {
      yes = λ e. (emitted Start xs, is_raw xs _ (rw is at e) refl);
      no = λ e. no_raw xs (rw is at e);
      once = cooked_once;
    }
