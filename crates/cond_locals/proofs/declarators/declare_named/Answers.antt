use Rattle.std.proofs.Common.{ap, ◌∙◌}
use Rattle.std.specs.Prelude.{option_map}
use Rattle.std.proofs.lemmas.Result.{IfOk-weaker}
use Rattle.cond_formula.specs.Features.{has}
use Rattle.cond_formula.specs.Conditions.{condition_of, value}
use Rattle.c_text.specs.Token.{plain_token}
use Rattle.c_tree.specs.Trees.{plain_tree}
use Rattle.choice_trees.specs.ChoiceTrees.{plain_item, item_at}
use Rattle.type_tables.specs.Tables.{local_named, is_in_block}
use Rattle.type_tables.specs.Seen.{seen_tables}
use Rattle.cond_locals.proofs.OneDeclarator.{named_here}
use Rattle.cond_locals.proofs.declarators.declare_named.Goals as goal

pub returns-clause-declares : goal.returns-clause-declares
returns-clause-declares g c =
    IfOk-weaker c.either.result _ _ (λ f is n admitted.
    named_here (has n) c.args.base.now (plain_tree c.args.declarator.now) (plain_token c.args.name.now) (option_map (λ item. item_at (has n) (plain_item item.now)) c.args.initialiser)
    (seen_tables (has n) c.args.tables.now) (seen_tables (has n) c.declare_new.new.tables) (value (has n) (condition_of c.args.when.now))
    (value (has n) (condition_of c.in_ok-known.known)) (value (has n) (condition_of c.in_ok-again.again)) (value (has n) (condition_of c.in_ok-refused.refused)) (value (has n) (condition_of f))
    (is (has n)) (c.in_ok-again.ensures.same n admitted)
    (c.in_ok-known.ensures (has n) ∙ ap (λ name. is_in_block (seen_tables (has n) c.args.tables.now).depth (local_named (seen_tables (has n) c.args.tables.now).locals name)) c.deref.ensures.value)
    (c.in_ok-refused.ensures.declares n (ap (value (has n)) c.in_ok-again.ensures.kept ∙ admitted))) c.either.ensures
