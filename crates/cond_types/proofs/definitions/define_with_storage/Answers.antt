use Rattle.std.proofs.Common.{Bool, subst}
use Rattle.cond_formula.specs.Features.{has}
use Rattle.cond_formula.specs.Conditions.{condition_of, value}
use Rattle.c_tree.specs.Grammar.{block}
use Rattle.tree_derivations.specs.Derivations.{Derivation}
use Rattle.choice_trees.specs.ChoiceTrees.{plain_item, item_at}
use Rattle.plain_objects.specs.PlainStates.{plain_storage}
use Rattle.cond_units.specs.Seen.{seen_unit}
use Rattle.cond_units.specs.Declaring.{Declares}
use Rattle.cond_units.specs.Functions.{IsFunctionDeclarator, judged_declarator}
use Rattle.cond_units.specs.Where.{Where}
use Rattle.cond_types.specs.Definitions.{definition_of_head}
use Rattle.cond_types.proofs.definitions.define_with_storage.Goals as goal

pub returns-clause-declares : goal.returns-clause-declares
returns-clause-declares g c = λ n admitted.
    let body = item_at (has n) (plain_item c.args.body.now) in
    let declarator = item_at (has n) (plain_item c.args.declarator.now) in
    subst (λ (b : Bool). Where b
    (Declares (has n) c.args.base.now (judged_declarator (definition_of_head (plain_storage c.args.one.now.storage) body) declarator) (IsFunctionDeclarator declarator × Derivation block body))
    (seen_unit (has n) c.args.unit.now) (seen_unit (has n) c.read_function.new.unit) (value (has n) (condition_of c.in_ok-refused.refused)))
    (c.in_ok-here.ensures (has n)) (c.in_ok-refused.ensures.declares n admitted)
