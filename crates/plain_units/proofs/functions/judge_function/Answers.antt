use Rattle.std.proofs.lemmas.Result.{MatchResult-weaker}
use Rattle.c_text.specs.Token.{PlainToken, plain_token}
use Rattle.c_types.specs.Types.{PlainType, plain_type}
use Rattle.c_tree.specs.Trees.{PlainTree, PlainTrees, plain_tree, plain_trees}
use Rattle.core_meaning.specs.Entities.{Scope}
use Rattle.core_meaning.specs.UnitNames.{Storage}
use Rattle.plain_scope.specs.PlainScope.{plain_scope, uses_of}
use Rattle.plain_statements.specs.PlainJudged.{plain_judged_items}
use Rattle.plain_objects.specs.PlainStates.{plain_storage}
use Rattle.plain_units.specs.Functions.{found_as, found_gives, found_refused}
use Rattle.plain_units.proofs.functions.judge_function.Goals as goal

pub returns : goal.returns
returns c =
    let scope : Scope = plain_scope c.args.scope.now in
    let storage : Storage = plain_storage c.args.storage in
    let base : PlainType = plain_type c.args.base.now in
    let result : PlainType = plain_type c.in_ok-returns.returns in
    let parts : PlainTrees = plain_trees c.args.parts.now in
    let name : PlainToken = plain_token c.args.name.now in
    let body : PlainTree = plain_tree c.args.body.now in
    MatchResult-weaker c.complete_function.result c.complete_function.ensures
    (λ d g. found_gives scope storage base result parts name body (found_as (plain_scope c.complete_function.new.scope) (plain_judged_items d.slots.items d.body.items)) (uses_of c.args.used.now) (uses_of c.complete_function.new.used) c.in_ok-returns.ensures g)
    (λ error r. found_refused scope storage base result parts name body error c.in_ok-returns.ensures r)
