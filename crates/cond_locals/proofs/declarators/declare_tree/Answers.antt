use Rattle.std.proofs.Common.{sym}
use Rattle.std.specs.Prelude.{option_map}
use Rattle.std.proofs.lemmas.Result.{IfOk-weaker}
use Rattle.cond_formula.specs.Features.{has}
use Rattle.cond_formula.specs.Conditions.{condition_of, value}
use Rattle.c_text.specs.Token.{plain_token}
use Rattle.c_tree.specs.Trees.{plain_tree}
use Rattle.choice_trees.specs.ChoiceTrees.{plain_item, item_at}
use Rattle.type_tables.specs.Seen.{seen_tables}
use Rattle.cond_locals.proofs.OneDeclarator.{tree_here}
use Rattle.cond_locals.proofs.declarators.declare_tree.Goals as goal

pub returns-clause-declares : goal.returns-clause-declares
returns-clause-declares g c =
    IfOk-weaker c.declare_named.result _ _ (λ f does n admitted.
    tree_here (has n) c.args.base.now (plain_tree c.args.declarator.now) (plain_token c.in-Some.name.now) (option_map (λ item. item_at (has n) (plain_item item.now)) c.args.initialiser)
    (seen_tables (has n) c.args.tables.now) (seen_tables (has n) c.declare_named.new.tables) (value (has n) (condition_of c.args.when.now)) (value (has n) (condition_of f))
    (sym c.in-Some.ensures) (does n admitted)) c.declare_named.ensures.declares
