use Rattle.std.proofs.Common.{sym, ap, ◌∙◌}
use Rattle.std.proofs.lemmas.Result.{IfOk-weaker}
use Rattle.cond_statements.specs.declared.uses.Use.{Use}
use Rattle.cond_statements.specs.Uses.{use_of}
use Rattle.cond_statements.specs.Results.{operand_refused}
use Rattle.cond_statements.proofs.results.where_operand_refused.Goals as goal

pub returns-in-Condition : goal.returns-in-Condition
returns-in-Condition c =
    IfOk-weaker c.where_condition_refused.result _ _ (λ f refusing on x ty shows stands.
    refusing on x ty shows ∙ ap (λ (u : Use). operand_refused (use_of u) x ty) (sym c.in-Condition.is)) c.where_condition_refused.ensures

pub returns-in-Discarded : goal.returns-in-Discarded
returns-in-Discarded c =
    IfOk-weaker c.where_value_refused.result _ _ (λ f refusing on x ty shows stands.
    refusing on x ty shows ∙ ap (λ (u : Use). operand_refused (use_of u) x ty) (sym c.in-Discarded.is)) c.where_value_refused.ensures
