use Rattle.std.proofs.Common.{get_or, sym, subst}
use Rattle.std.proofs.lemmas.Result.{IfOk-weaker}
use Rattle.cond_operands.specs.Operands.{ShowsOperand}
use Rattle.expression_types.specs.Reading.{no_expression}
use Rattle.cond_nodes.proofs.Arms.{read_at, none_at}
use Rattle.cond_nodes.proofs.operands.operand.Goals as goal

pub returns-then-number-operands : goal.returns-then-number-operands
returns-then-number-operands c =
    IfOk-weaker c.copied.result _ _ (λ z copies on callable reads each.
    copies on (get_or reads c.args.number no_expression).outcome
    (read_at on callable reads c.args.operands.now c.args.number c.index-operands-number.result c.if-number-operands.true each).outcome) c.copied.ensures

pub returns-else-number-operands : goal.returns-else-number-operands
returns-else-number-operands c =
    IfOk-weaker c.refused_everywhere.result _ _ (λ z refuses on callable reads each.
    subst (λ r. ShowsOperand on r.outcome z) (sym (none_at on callable reads c.args.operands.now c.args.number c.if-number-operands.false each)) (refuses on)) c.refused_everywhere.ensures
