use Rattle.std.proofs.Common.{◌≡◌, ℕ, ◌+◌, ◌-◌, ◌%◌, ◌<◌, ◌∙◌, arith}
use Rattle.writer.specs.Texts.{final_zeros}
use Rattle.writer.specs.Zeros.{zeros_none, fewer, front_more, count_more}
use Rattle.writer.proofs.digits.without_zeros.Goals as goal

found : (n m z : ℕ) → z + final_zeros (16 - z) m ≡ final_zeros 16 n → (0 < m → m % 10 ≡ 0 → ⊥) → z ≡ final_zeros 16 n
found n m z e h = omega (arith, zeros_none (16 - z) m h)

pub overflow_add-zeros : goal.overflow_add-zeros
overflow_add-zeros c = omega (arith, fewer 16 c.args.n c.loop-stem.stem c.loop-stem.zeros c.requires c.loop-stem.invariant.0 (omega arith))

pub loop-stem-preserved : goal.loop-stem-preserved
loop-stem-preserved c =
    let m = c.loop-stem.stem in
    let z = c.loop-stem.zeros in
    let l = fewer 16 c.args.n m z c.requires c.loop-stem.invariant.0 (omega arith) in
    (front_more c.args.n m z c.loop-stem.invariant.0 c.if-stem-eq0.true, count_more 16 m z l (omega arith) c.if-stem-eq0.true ∙ c.loop-stem.invariant.1)

pub returns-else-stem-eq0 : goal.returns-else-stem-eq0
returns-else-stem-eq0 c = record {
  zeros = found c.args.n c.loop-stem.stem c.loop-stem.zeros c.loop-stem.invariant.1 (λ p z. c.if-stem-eq0.false z);
  stem = c.loop-stem.invariant.0;
}

pub returns-after-loop-stem : goal.returns-after-loop-stem
returns-after-loop-stem c = record {
  zeros = found c.args.n c.loop-stem.stem c.loop-stem.zeros c.loop-stem.invariant.1 (λ p z. omega (arith, c.loop-stem-test.false));
  stem = c.loop-stem.invariant.0;
}
