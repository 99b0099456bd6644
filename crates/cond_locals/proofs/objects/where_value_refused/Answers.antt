use Rattle.std.proofs.Common.{◌≡◌, [], sym, subst}
use Rattle.std.specs.Prelude.{option_map}
use Rattle.std.proofs.lemmas.Result.{IfOk-weaker}
use Rattle.cond_formula.specs.Features.{has}
use Rattle.cond_formula.specs.Conditions.{condition_of, value}
use Rattle.choice_trees.specs.ChoiceTrees.{plain_item, item_at}
use Rattle.core_meaning.specs.Declarations.{local_initial}
use Rattle.statement_readings.specs.Walks.{is_refused}
use Rattle.cond_locals.specs.Declaring.{IsInitialiser}
use Rattle.cond_locals.proofs.objects.where_value_refused.Goals as goal

pub returns-in-Some-clause-refused : goal.returns-in-Some-clause-refused
returns-in-Some-clause-refused g c =
    IfOk-weaker c.where_initialiser_refused.result _ _ (λ f refused n admitted scope follows t is there derived name.
    subst (λ o. value (has n) (condition_of f) ≡ is_refused (local_initial scope t name (option_map (λ item. item_at (has n) (plain_item item.now)) o))) (sym c.in-Some.is)
    (refused n admitted scope follows t is there (subst (λ o. IsInitialiser (option_map (λ item. item_at (has n) (plain_item item.now)) o)) c.in-Some.is derived) [] name))
    c.where_initialiser_refused.ensures.refused
