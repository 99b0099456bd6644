use Rattle.std.proofs.Common.{sym}
use Rattle.std.proofs.lemmas.Result.{IfOk-weaker}
use Rattle.cond_formula.specs.Features.{has}
use Rattle.cond_formula.specs.Conditions.{condition_of, value}
use Rattle.c_text.specs.Token.{plain_token}
use Rattle.c_tree.specs.Trees.{plain_tree}
use Rattle.plain_objects.specs.PlainStates.{plain_storage}
use Rattle.cond_units.specs.Seen.{seen_unit, initialiser_at}
use Rattle.cond_units.proofs.OneObjectDeclarator.{tree_here}
use Rattle.cond_units.proofs.object_declarators.declare_tree.Goals as goal

pub returns-clause-declares : goal.returns-clause-declares
returns-clause-declares g c =
    IfOk-weaker c.declare_named.result _ _ (λ f does n globals admitted.
    tree_here (has n) globals (plain_storage c.args.declaration.now.storage) c.args.base.now (plain_tree c.args.declarator.now) (plain_token c.in-Some.name.now) (initialiser_at (has n) c.args.declaration.now) (g.B.Behind.rest c.args.declaration.now.behind.now n)
    (seen_unit (has n) c.args.unit.now) (seen_unit (has n) c.declare_named.new.unit) (value (has n) (condition_of c.args.when.now)) (value (has n) (condition_of f))
    (sym c.in-Some.ensures) (does n globals admitted)) c.declare_named.ensures.declares
