use Rattle.std.proofs.lemmas.Result.{IfOk-weaker}
use Rattle.conditional.specs.Judgements.{bind}
use Rattle.choice_trees.specs.ChoiceTrees.{semicolon}
use Rattle.operand_types.specs.Operators.{tested_type}
use Rattle.cond_statements.proofs.results.where_condition_refused.Goals as goal

pub returns : goal.returns
returns c =
    IfOk-weaker c.where_refused.result _ _ (λ f refusing on x ty shows. refusing on (bind x (tested_type semicolon)) (c.in_ok-tests.ensures semicolon on x shows)) c.where_refused.ensures
