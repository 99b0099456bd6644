use Rattle.std.proofs.Common.{[]}
use Rattle.std.proofs.lemmas.Result.{IfOk-weaker}
use Rattle.cond_formula.specs.Features.{has}
use Rattle.cond_formula.specs.Conditions.{condition_of, value}
use Rattle.choice_trees.specs.ChoiceTrees.{plain_item, item_at}
use Rattle.cond_units.proofs.Given.{value_given}
use Rattle.cond_units.proofs.objects.where_value_refused.Goals as goal

pub returns-in-Some-clause-refused : goal.returns-in-Some-clause-refused
returns-in-Some-clause-refused g c = IfOk-weaker c.where_first_value_refused.result _ _ (λ f is n admitted scope follows t same there outside derived name globals.
    value_given (λ item. item_at (has n) (plain_item item.now)) c.args.initialiser c.in-Some.first c.in-Some.is scope globals t name (value (has n) (condition_of f))
    (λ d. is n admitted scope follows outside t same there d globals [] name) derived) c.where_first_value_refused.ensures.refused
