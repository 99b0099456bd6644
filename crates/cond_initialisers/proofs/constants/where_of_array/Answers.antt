use Rattle.std.proofs.Common.{◌&&◌, not, ap, ◌∙◌}
use Rattle.std.proofs.lemmas.Result.{IfOk-weaker}
use Rattle.cond_formula.specs.Features.{has}
use Rattle.cond_formula.specs.Conditions.{condition_of, value}
use Rattle.cond_formula.specs.ConditionLaws.{condition_of-True}
use Rattle.conditional.specs.Judgements.{bind}
use Rattle.choice_trees.specs.ChoiceTrees.{plain_item, item_at}
use Rattle.expression_types.specs.Reading.{read_expression}
use Rattle.cond_initialisers.specs.Constants.{an_array}
use Rattle.cond_initialisers.proofs.constants.where_of_array.Goals as goal

pub returns-clause-same : goal.returns-clause-same
returns-clause-same g c = IfOk-weaker c.without.result _ _ (λ f holds n right admitted.
    let outcome = (read_expression (g.K.Knowledge.known c.args.known.now n) (item_at (has n) (plain_item c.args.item.now))).outcome in
    holds (has n)
    ∙ (ap (λ t. value (has n) t && not (value (has n) (condition_of c.in_ok-failed.failed))) condition_of-True
    ∙ ap not (c.in_ok-failed.ensures (has n) (bind outcome an_array)
    (c.in_ok-tests.ensures an_array (record { maps = λ o r answers. answers }) (has n) outcome (c.in_ok-read.ensures.shows n right admitted).outcome)))) c.without.ensures
