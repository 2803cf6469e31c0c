use Rattle.std.proofs.Common.{Bool, cond, pos, sym, ap, ◌∙◌}
use lib.Ieee.{binary64, neg, of_int}
use Rattle.integers.specs.Safe.{made}
use Rattle.integers.proofs.Made.{made_safe}
use Rattle.integers.proofs.safe.from_integer.Goals as goal

pub returns-then-n : goal.returns-then-n
unfolding made
returns-then-n c = let x = of_int binary64 (pos c.args.n.size) in record {
  value = ap neg c.nearest_u64_to_f64-magnitude.ensures ∙ sym (ap (λ (b : Bool). cond b (neg x) x) c.if-n.true);
  same = made_safe;
}

pub returns-else-n : goal.returns-else-n
unfolding made
returns-else-n c = let x = of_int binary64 (pos c.args.n.size) in record {
  value = c.nearest_u64_to_f64-magnitude.ensures ∙ sym (ap (λ (b : Bool). cond b (neg x) x) c.if-n.false);
  same = made_safe;
}
