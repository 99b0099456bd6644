use Rattle.std.proofs.Common.{Bool, subst}
use Rattle.std.specs.Prelude.{option_map}
use Rattle.cond_formula.specs.Features.{has}
use Rattle.cond_formula.specs.Conditions.{condition_of, value}
use Rattle.c_tree.specs.Trees.{plain_tree}
use Rattle.choice_trees.specs.ChoiceTrees.{plain_item, item_at}
use Rattle.core_meaning.specs.Declarations.{one_local}
use Rattle.type_tables.specs.Seen.{seen_tables}
use Rattle.conditional_steps.specs.Here.{Here}
use Rattle.cond_locals.specs.Declaring.{IsInitialiser, Declares}
use Rattle.cond_locals.proofs.declarators.declare_expansion.Goals as goal

pub returns-clause-declares : goal.returns-clause-declares
returns-clause-declares g c = λ n admitted.
    subst (λ (b : Bool). Here b
    (Declares (has n) c.args.base.now (λ scope slots ty. one_local scope slots ty (plain_tree c.args.expansion.now.tree) (option_map (λ item. item_at (has n) (plain_item item.now)) c.args.initialiser))
    (λ scope. IsInitialiser (option_map (λ item. item_at (has n) (plain_item item.now)) c.args.initialiser)))
    (seen_tables (has n) c.args.tables.now) (seen_tables (has n) c.declare_tree.new.tables) (value (has n) (condition_of c.in_ok-refused.refused)))
    (c.in_ok-here.ensures (has n)) (c.in_ok-refused.ensures.declares n admitted)
