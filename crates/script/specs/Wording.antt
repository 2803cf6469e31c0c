-- How a message names what a line should have had, and why it is not read.
use Rattle.std.specs.Prelude.{ℕ, List, ◌++◌, codes}
use Rattle.script.specs.declared.expected.Expected.{Expected}
use Rattle.script.specs.declared.expected.Expected.TheVariants as E
use Rattle.script.specs.declared.fault.Fault.{Fault}
use Rattle.script.specs.declared.fault.Fault.TheVariants as F

abbrev pub wording : Expected → List ℕ
wording E.Verb = codes "`open`, `name`, `build`, `root`, `read` or `print`"
wording E.Integer = codes "a decimal integer"
wording E.Node = codes "a node's number"
wording E.Extent = codes "a place, as its start and its length"
wording E.Number = codes "a number"
wording E.Boolean = codes "`true` or `false`"
wording E.Writer = codes "`plain` or `short`"
wording E.Source = codes "a JSON string"
wording E.NameText = codes "a name"
wording E.QuotedText = codes "a valid JSON string"
wording E.Separator = codes "a space after the string"
wording E.Class = codes "`free`, `bound` or `constant`"
wording E.Constant = codes "`number`, `string`, `boolean`, `null` or `undefined`"
wording E.Use = codes "`inlined` or `kept`"
wording E.Shape = codes "a shape"
wording E.UnaryOperator = codes "a unary operator"
wording E.BinaryOperator = codes "a binary operator"
wording E.End = codes "the end of the line"

abbrev pub fault_wording : Fault → List ℕ
fault_wording (F.Malformed expected) = codes "expected " ++ wording expected
fault_wording F.NoMemory = codes "no memory"
