use Rattle.std.proofs.Common.{Bool, subst}
use Rattle.cond_formula.specs.Features.{has}
use Rattle.cond_formula.specs.Conditions.{condition_of, value}
use Rattle.c_tree.specs.declared.kinds.Kind.TheVariants as k
use Rattle.choice_trees.specs.ChoiceTrees.{plain_choices, parts_at}
use Rattle.tree_derivations.specs.Derivations.{Declared}
use Rattle.plain_objects.specs.PlainStates.{plain_storage}
use Rattle.cond_units.specs.Seen.{seen_unit}
use Rattle.cond_units.specs.Declaring.{Declares}
use Rattle.cond_units.specs.Where.{Where}
use Rattle.cond_units.specs.Names.{all_names}
use Rattle.cond_units.proofs.storages.name_with_storage.Goals as goal

pub returns-clause-declares : goal.returns-clause-declares
returns-clause-declares g c = λ n globals role admitted.
    subst (λ (b : Bool). Where b
    (Declares (has n) c.args.base.now
    (all_names globals (plain_storage c.args.one.now.storage) (g.B.Behind.rest c.args.surroundings.now.behind.now n) (parts_at (has n) k.Declarators 0 (plain_choices c.args.parts.now))) (Declared role (parts_at (has n) k.Declarators 0 (plain_choices c.args.parts.now))))
    (seen_unit (has n) c.args.unit.now) (seen_unit (has n) c.declare_names.new.unit) (value (has n) (condition_of c.in_ok-refused.refused)))
    (c.in_ok-here.ensures (has n)) (c.in_ok-refused.ensures.declares n globals role admitted)
