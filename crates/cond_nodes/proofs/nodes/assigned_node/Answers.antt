use Rattle.std.proofs.Common.{subst}
use Rattle.std.proofs.lemmas.Result.{IfOk-weaker}
use Rattle.cond_formula.specs.Features.{has}
use Rattle.conditional.specs.Judgements.{bind}
use Rattle.operand_types.specs.Operators.{assigned_type}
use Rattle.cond_operands.specs.Operands.{ShowsOperand}
use Rattle.expression_types.specs.Reading as spec
use Rattle.cond_nodes.proofs.nodes.assigned_node.Goals as goal

pub returns-clause-shows : goal.returns-clause-shows
returns-clause-shows g c =
    IfOk-weaker c.assigned.result _ _ (λ z shows n callable known p admitted is each.
    subst (λ t. ShowsOperand (has n) (bind (spec.operand 0 p) (λ left. bind (spec.value 1 p) (assigned_type t left))) z) is
    (shows n admitted (spec.operand 0 p) (spec.value 1 p) (c.in_ok-a.ensures (has n) callable p.operands each) (c.in_ok-b.ensures (has n) callable p.operands each))) c.assigned.ensures.shows
