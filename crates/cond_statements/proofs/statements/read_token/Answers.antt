use Rattle.std.proofs.Common.{sym, ap, subst, ◌∙◌}
use Rattle.std.proofs.lemmas.Result.{IfOk-weaker}
use Rattle.cond_formula.specs.Features.{has}
use Rattle.cond_formula.specs.Conditions.{condition_of, value}
use Rattle.c_text.specs.Token.{plain_token}
use Rattle.conditional.specs.Entries.{alternatives}
use Rattle.statement_readings.specs.Walks.{use_in, expression_refused}
use Rattle.type_tables.specs.Forms.{declared_type_form}
use Rattle.type_tables.specs.Seen.{seen_tables}
use Rattle.cond_statements.specs.Ready.{IsExpression}
use Rattle.cond_statements.proofs.Answering.{ok_two}
use Rattle.cond_statements.proofs.Nodes.{operand_read, token_read}
use Rattle.cond_statements.proofs.statements.read_token.Goals as goal

pub returns-then-is_operand-clause-reads : goal.returns-then-is_operand-clause-reads
returns-then-is_operand-clause-reads g c =
    ok_two c.read_expression_part.result _ _ _ (λ f elsewhere refusing n ty admitted at.
    operand_read (has n) ty (alternatives declared_type_form c.args.returns.now) c.args.around.in_loop c.args.around.kind (value (has n) (condition_of c.args.turned.now)) (plain_token c.args.token.now)
    (value (has n) (condition_of c.args.when.now)) (seen_tables (has n) c.args.tables.now) (value (has n) (condition_of f)) (sym c.is_operand.ensures ∙ c.if-is_operand.true) (elsewhere n)
    (λ h by scope stands follows derived.
    refusing n admitted h by ty scope stands follows (subst IsExpression (sym at) derived)
    ∙ ap (expression_refused ty scope (use_in c.args.around.kind (value (has n) (condition_of c.args.turned.now)))) at))
    c.read_expression_part.ensures.elsewhere c.read_expression_part.ensures.refused

pub returns-else-is_operand-clause-reads : goal.returns-else-is_operand-clause-reads
returns-else-is_operand-clause-reads g c =
    IfOk-weaker c.never.result _ _ (λ f off n ty admitted at.
    token_read (has n) ty (alternatives declared_type_form c.args.returns.now) c.args.around.in_loop c.args.around.kind (value (has n) (condition_of c.args.turned.now)) (plain_token c.args.token.now)
    (value (has n) (condition_of c.args.when.now)) (seen_tables (has n) c.args.tables.now) (value (has n) (condition_of f)) (sym c.is_operand.ensures ∙ c.if-is_operand.false) (off (has n))) c.never.ensures
