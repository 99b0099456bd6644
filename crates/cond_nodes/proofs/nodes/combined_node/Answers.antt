use Rattle.std.proofs.Common.{subst}
use Rattle.std.proofs.lemmas.Result.{IfOk-weaker}
use Rattle.cond_formula.specs.Features.{has}
use Rattle.conditional.specs.Judgements.{bind}
use Rattle.operand_types.specs.Operators.{combined_type}
use Rattle.cond_operands.specs.Operands.{ShowsOperand}
use Rattle.expression_types.specs.Reading as spec
use Rattle.cond_nodes.proofs.nodes.combined_node.Goals as goal

pub returns-clause-shows : goal.returns-clause-shows
returns-clause-shows g c =
    IfOk-weaker c.combined.result _ _ (λ z shows n callable p admitted is each.
    subst (λ t. ShowsOperand (has n) (bind (spec.value 0 p) (λ a. bind (spec.value 1 p) (combined_type c.args.kind t a))) z) is
    (shows n admitted (spec.value 0 p) (spec.value 1 p) (c.in_ok-a.ensures (has n) callable p.operands each) (c.in_ok-b.ensures (has n) callable p.operands each))) c.combined.ensures.shows
