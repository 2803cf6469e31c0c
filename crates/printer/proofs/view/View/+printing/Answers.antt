use Rattle.units.proofs.Sinks.{◌⨾◌, puts_none, puts_is, puts_units}
use Rattle.syntax.specs.Operators.{binary_of}
use Rattle.forms.proofs.Bytes.{printed-template, printed-member, printed-index, printed-call, printed-sequence, printed_arguments_lem, printed_further_lem, printed_parts_lem}
use Rattle.printer.proofs.Reading.{node_parens, node_plain}
use Rattle.printer.proofs.Operators.{binary_shown}
use Rattle.printer.proofs.Rows.{turn}
use Rattle.printer.proofs.view.View.+printing.Goals as goal

-- ---- a node at its place

pub node-returns-then-parenthesises : goal.node-returns-then-parenthesises
node-returns-then-parenthesises g t c =
    puts_is (c.byte.ensures ⨾ c.bare.ensures ⨾ c.byte-then-parenthesises.ensures)
    (node_parens c.args.self.now c.args.n c.requires g.W.NumberWriter.text c.args.place c.shape_of.ensures c.if-parenthesises.ensures)

pub node-returns-else-parenthesises : goal.node-returns-else-parenthesises
node-returns-else-parenthesises g t c =
    puts_is c.bare-else-parenthesises.ensures
    (node_plain c.args.self.now c.args.n c.requires g.W.NumberWriter.text c.args.place c.shape_of.ensures c.if-parenthesises.ensures)

-- ---- a node by itself

pub bare-returns-in-Sequence : goal.bare-returns-in-Sequence
bare-returns-in-Sequence g t c =
    rw (c.in-Sequence.is, printed-sequence) (c.node-in-Sequence.ensures ⨾ (rw c.parts.ensures at c.further.ensures))

pub binary-returns-in-Some : goal.binary-returns-in-Some
binary-returns-in-Some g t c =
    puts_is (c.node.ensures ⨾ c.bytes.ensures ⨾ c.node-in-Some.ensures) (binary_shown g.W.NumberWriter.text (binary_of c.args.operator) _ _ _ c.in-Some.ensures)

pub member-returns : goal.member-returns
member-returns g t c =
    rw printed-member (c.node.ensures ⨾ puts_is c.bytes.ensures c.dot.ensures ⨾ puts_units c.units.ensures c.part.ensures)

pub index-returns : goal.index-returns
index-returns g t c =
    rw printed-index (c.node.ensures ⨾ puts_is c.bytes.ensures c.mark.ensures ⨾ c.byte.ensures ⨾ c.node-2.ensures ⨾ c.byte-2.ensures)

pub call-returns : goal.call-returns
call-returns g t c =
    rw printed-call (c.node.ensures ⨾ puts_is c.bytes.ensures c.mark.ensures ⨾ c.byte.ensures ⨾ (rw c.parts.ensures at c.arguments.ensures) ⨾ c.byte-2.ensures)

-- ---- the parts of a row

pub arguments-returns-in-Some : goal.arguments-returns-in-Some
arguments-returns-in-Some g t c =
    rw (c.in-Some.ensures.steps, printed_arguments_lem) (c.node.ensures ⨾ c.further.ensures)

pub further-loop-part-preserved : goal.further-loop-part-preserved
further-loop-part-preserved g t c =
    record {
      put = λ out p. c.loop-part.invariant.put out (rw (c.in-Some.ensures.steps, printed_further_lem) (c.byte.ensures ⨾ c.node.ensures ⨾ p));
      left = (turn c.args.self.now.entries.now c.loop-part.invariant.left c.in-Some.ensures.steps).left;
    }

pub further-returns : goal.further-returns
further-returns g t c = c.loop-part.invariant.put c.loop-part.sink (rw c.in-None.ensures.steps.0 (puts_none c.loop-part.sink))

pub template-loop-part-preserved : goal.template-loop-part-preserved
template-loop-part-preserved g t c =
    record {
      put = λ out p. c.loop-part.invariant.put out (rw (c.in-Some.ensures.steps, printed_parts_lem) (c.bytes.ensures ⨾ c.node.ensures ⨾ c.byte-in-loop-part.ensures ⨾ puts_units c.units-in-loop-part.ensures c.part-in-loop-part.ensures ⨾ p));
      left = (turn c.args.self.now.entries.now c.loop-part.invariant.left c.in-Some.ensures.steps).left;
    }

pub template-returns : goal.template-returns
template-returns g t c =
    rw printed-template (c.byte.ensures ⨾ puts_units c.units.ensures c.part.ensures ⨾ c.loop-part.invariant.put c.loop-part.sink (rw c.in-None.ensures.steps.0 (puts_none c.loop-part.sink)) ⨾ c.byte-2.ensures)
