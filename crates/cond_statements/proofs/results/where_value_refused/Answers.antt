use Rattle.std.proofs.lemmas.Result.{IfOk-weaker}
use Rattle.conditional.specs.Judgements.{bind}
use Rattle.choice_trees.specs.ChoiceTrees.{semicolon}
use Rattle.operand_types.specs.Operators.{loaded_type}
use Rattle.cond_statements.proofs.results.where_value_refused.Goals as goal

pub returns : goal.returns
returns c =
    IfOk-weaker c.where_refused.result _ _ (λ f refusing on x ty shows. refusing on (bind x (loaded_type semicolon)) (c.in_ok-values.ensures semicolon on x shows)) c.where_refused.ensures
