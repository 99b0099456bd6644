use Rattle.class_conditions.proofs.Products.{conditions_tell}
use Rattle.class_conditions.proofs.laws.conditions_tell_preconditions.Goals as goal

pub returns : goal.returns
returns c =
    conditions_tell c.programs_are_one.ensures c.outcomes_are_one.ensures c.tokens_spell_one_unit.ensures c.tests_are_of_preconditions.ensures
    c.told_pass_as_occurrences.ensures
