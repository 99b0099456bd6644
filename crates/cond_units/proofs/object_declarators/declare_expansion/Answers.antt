use Rattle.std.proofs.Common.{Bool, subst}
use Rattle.cond_formula.specs.Features.{has}
use Rattle.cond_formula.specs.Conditions.{condition_of, value}
use Rattle.c_tree.specs.Trees.{plain_tree}
use Rattle.plain_objects.specs.PlainStates.{plain_storage}
use Rattle.conditional_steps.specs.Here.{Here}
use Rattle.cond_units.specs.Seen.{seen_unit, initialiser_at}
use Rattle.cond_units.specs.Declaring.{IsInitialiser, object_in, Declares}
use Rattle.cond_units.proofs.object_declarators.declare_expansion.Goals as goal

pub returns-clause-declares : goal.returns-clause-declares
returns-clause-declares g c = λ n globals admitted.
    subst (λ (b : Bool). Here b
    (Declares (has n) c.args.base.now (object_in globals (plain_storage c.args.declaration.now.storage) (plain_tree c.args.expansion.now.tree) (initialiser_at (has n) c.args.declaration.now) (g.B.Behind.rest c.args.declaration.now.behind.now n))
    (IsInitialiser (initialiser_at (has n) c.args.declaration.now)))
    (seen_unit (has n) c.args.unit.now) (seen_unit (has n) c.declare_tree.new.unit) (value (has n) (condition_of c.in_ok-refused.refused)))
    (c.in_ok-here.ensures (has n)) (c.in_ok-refused.ensures.declares n globals admitted)
