use Rattle.std.proofs.lemmas.Result.{IfOk-weaker}
use Rattle.c_types.specs.Types.{plain_type}
use Rattle.conditional.specs.Judgements.{bind}
use Rattle.choice_trees.specs.ChoiceTrees.{semicolon}
use Rattle.operand_types.specs.Operators.{fitted_type}
use Rattle.cond_statements.proofs.results.where_unfit.Goals as goal

pub returns : goal.returns
returns c =
    IfOk-weaker c.where_refused.result _ _ (λ f refusing on x shows.
    refusing on (bind x (fitted_type semicolon (plain_type c.args.ty.now))) (c.in_ok-tests.ensures semicolon on x (c.in_ok-operand.ensures on x shows))) c.where_refused.ensures
