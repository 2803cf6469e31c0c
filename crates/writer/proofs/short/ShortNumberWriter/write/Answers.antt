use Rattle.std.proofs.Common.{◌≡◌, ℕ, Option, Some, subst, [], ◌∷◌, ◌++◌, length, decimal, ap, ◌∙◌, append_assoc, arith, length-append}
use Rattle.std.specs.Option.{option_map}
use Rattle.writer.specs.Texts.{short_decimal}
use Rattle.writer.specs.Writers.{Wrote}
use Rattle.writer.specs.Lengths.{many_zeros}
use Rattle.writer.proofs.short.ShortNumberWriter.write.Goals as goal

pub returns : goal.returns
returns c =
    let n = c.in_ok-n.n in
    let m = c.without_zeros-stem.result.stem in
    let z = c.without_zeros-stem.result.zeros in
    let joined : c.push_str.new.self.bytes ≡ (decimal m ++ 101 ∷ []) ++ decimal z = cc (c.push.ensures.ascii (omega arith)) in
    subst (λ (o : Option ℕ). Wrote (option_map short_decimal o) (Some c.push_str.new.self)) c.in_ok-n.ensures.value (
      joined ∙ append_assoc (decimal m) (101 ∷ []) (decimal z) ∙ many_zeros n m z c.without_zeros-stem.ensures.zeros c.without_zeros-stem.ensures.stem (omega arith),
      omega (arith, ap length joined, length-append {A = ℕ}, ap length c.digits-text.ensures.text, ap length c.digits-2.ensures.text),
    )
