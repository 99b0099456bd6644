use Rattle.std.specs.Prelude.{option_map}
use Rattle.cond_formula.specs.Features.{has}
use Rattle.cond_formula.specs.Conditions.{condition_of, value}
use Rattle.choice_trees.specs.ChoiceTrees.{plain_item, item_at}
use Rattle.plain_objects.specs.PlainStates.{plain_storage}
use Rattle.cond_units.specs.Seen.{seen_unit}
use Rattle.cond_units.proofs.Declarators.{object_named}
use Rattle.cond_units.proofs.names.name_object.Goals as goal

pub returns-clause-declares : goal.returns-clause-declares
returns-clause-declares g c = λ n globals role admitted other.
    object_named (has n) c.args.declaration.now.base.now globals (plain_storage c.args.declaration.now.storage) (g.B.Behind.rest c.args.declaration.now.behind.now n) role
    (item_at (has n) (plain_item c.args.declarator.now)) (option_map (λ item. item_at (has n) (plain_item item.now)) c.args.initialiser)
    (seen_unit (has n) c.args.unit.now) (seen_unit (has n) c.declare_object.new.unit) (value (has n) (condition_of c.args.when.now)) (value (has n) (condition_of c.in_ok-refused.refused))
    other (c.in_ok-refused.ensures.declares n globals admitted)
