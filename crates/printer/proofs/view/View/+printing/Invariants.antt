use Rattle.std.proofs.Common.{ℕ, ◌+◌, ◌*◌, List, [], ◌∷◌}
use Rattle.units.specs.declared.sink.Sink.{Sink}
use Rattle.units.specs.declared.span.Span.{Span}
use Rattle.units.specs.Sinks.{Puts}
use Rattle.nodes.specs.Meaning.{at, row_of, nums, exprs_of, parts_of}
use Rattle.forms.specs.Printed.{printed_further, printed_parts}
use Rattle.printer.specs.Views.{texts_of, expr_in, parts_in, kids_in}
use Rattle.printer.proofs.Rows.{above, Left}
use Rattle.printer.proofs.view.View.+printing.Given as goal

abbrev pub decreases-node : goal.decreases-node
decreases-node g l = 5 * (at l.self.now.entries.now l.n).height + 4

abbrev pub decreases-bare : goal.decreases-bare
decreases-bare g l = 5 * above l.self.now.entries.now (kids_in l.self.now l.kind) + 3

abbrev pub decreases-unary : goal.decreases-unary
decreases-unary g l = 5 * above l.self.now.entries.now (l.operand ∷ []) + 2

abbrev pub decreases-binary : goal.decreases-binary
decreases-binary g l = 5 * above l.self.now.entries.now (l.left ∷ l.right ∷ []) + 2

abbrev pub decreases-member : goal.decreases-member
decreases-member g l = 5 * above l.self.now.entries.now (l.object ∷ []) + 2

abbrev pub decreases-index : goal.decreases-index
decreases-index g l = 5 * above l.self.now.entries.now (l.object ∷ l.key ∷ []) + 2

abbrev pub decreases-call : goal.decreases-call
decreases-call g l = 5 * above l.self.now.entries.now (l.callee ∷ parts_in l.self.now l.arguments) + 2

abbrev pub decreases-arguments : goal.decreases-arguments
decreases-arguments g l = 5 * above l.self.now.entries.now (nums l.parts) + 1

abbrev pub decreases-further : goal.decreases-further
decreases-further g l = 5 * above l.self.now.entries.now (nums l.parts)

abbrev pub decreases-template : goal.decreases-template
decreases-template g l = 5 * above l.self.now.entries.now (parts_in l.self.now l.parts)

abbrev pub invariant-further-loop-part : goal.invariant-further-loop-part
invariant-further-loop-part g l =
    let text = λ (ps : List (ℕ × Span)). printed_further g.W.NumberWriter.text l.place (exprs_of (expr_in l.self) (nums ps)) in
    record {
      put : (out : Sink) → Puts l.sink (text l.part-iterator) out → Puts l.initial.sink (text l.fn.parts) out;
      left : Left l.self.entries.now l.fn.parts l.part-iterator;
    }

abbrev pub invariant-template-loop-part : goal.invariant-template-loop-part
invariant-template-loop-part g l =
    let text = λ (ps : List (ℕ × Span)). printed_parts g.W.NumberWriter.text (parts_of (texts_of l.self) (expr_in l.self) ps) in
    let all = row_of l.self.entries.now l.fn.parts in
    record {
      put : (out : Sink) → Puts l.sink (text l.part-iterator) out → Puts l.initial.sink (text all) out;
      left : Left l.self.entries.now all l.part-iterator;
    }
