use Rattle.std.proofs.Common.{arith}
use Rattle.template.proofs.Writes.{fits, written_more, written_full}
use Rattle.template.proofs.cooking.write_cooked.Goals as goal

pub put-end-requires : goal.put-end-requires
put-end-requires c =
    let fit = fits c.loop-unit.invariant.written c.advance-step.result (omega arith) c.advance-step.ensures in
    omega arith

pub returns-then-end-room-clause-wrote : goal.returns-then-end-room-clause-wrote
returns-then-end-room-clause-wrote c =
    let more = written_more c.loop-unit.invariant.written c.advance-step.result (omega arith) c.advance-step.ensures c.put-end.new.out c.put-end.ensures.wrote in
    written_full more (omega (arith, c.put-end.ensures.place, c.requires))

pub loop-unit-preserved : goal.loop-unit-preserved
loop-unit-preserved c =
    record {
      written =
          rw c.put-end.ensures.place (written_more c.loop-unit.invariant.written c.advance-step.result (omega arith) c.advance-step.ensures c.put-end.new.out c.put-end.ensures.wrote);
      within = omega arith;
    }
