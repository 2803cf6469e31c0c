use Rattle.std.proofs.Common.{◌≡◌, Some, refl, sym, ◌∙◌}
use Rattle.template.proofs.Parts.{no_room, cooked_into}
use Rattle.template.proofs.cooking.cook.Goals as goal

pub returns-in_err-write_cooked : goal.returns-in_err-write_cooked
returns-in_err-write_cooked c = rw c.from_residual.ensures (refl, no_room c.args.raw.now _ c.in_err-write_cooked.ensures.length)

pub returns : goal.returns
returns c =
    let fits = c.in_ok-write_cooked.ensures.length in
    let is : c.write_cooked-2.result ≡ Some c.in_ok-write_cooked.field-0 = c.write_cooked-2.ensures.length ∙ sym fits in
    rw (is, c.write_cooked-2.ensures.wrote) (cooked_into c.args.raw.now _ c.args.out.now fits)
