use Rattle.std.proofs.Common.{◌≡◌, true, sym, ◌∙◌}
use Rattle.std.proofs.lemmas.Result.{MatchResult-weaker}
use Rattle.c_text.specs.Token.{PlainToken, plain_token}
use Rattle.c_types.specs.Types.{PlainType, plain_type}
use Rattle.c_tree.specs.Trees.{PlainTree, PlainTrees, plain_tree, plain_trees}
use Rattle.core_meaning.specs.declared.refusals.TypeKind.{TypeKind}
use Rattle.core_meaning.specs.Checking.{Checked}
use Rattle.core_meaning.specs.Entities.{Scope}
use Rattle.core_meaning.specs.UnitNames.{Storage, is_result}
use Rattle.plain_scope.specs.PlainScope.{plain_scope, uses_of}
use Rattle.plain_declarators.specs.Sequences.{passed_gives, passed_refused}
use Rattle.plain_statements.specs.PlainJudged.{plain_judged_items}
use Rattle.plain_objects.specs.PlainStates.{plain_storage}
use Rattle.plain_units.specs.Functions.{FoundFunction, found_as, function_with_result, kind_of_result}
use Rattle.plain_units.proofs.functions.complete_function.Goals as goal

pub returns-then-is_result : goal.returns-then-is_result
returns-then-is_result c =
    let scope : Scope = plain_scope c.args.scope.now in
    let storage : Storage = plain_storage c.args.storage in
    let result : PlainType = plain_type c.args.returns.now in
    let parts : PlainTrees = plain_trees c.args.parts.now in
    let name : PlainToken = plain_token c.args.name.now in
    let body : PlainTree = plain_tree c.args.body.now in
    let kind : TypeKind = kind_of_result scope storage result parts name in
    let next : Unit {0} → Checked FoundFunction = λ fits. function_with_result scope storage result parts name body in
    let fits : is_result scope result ≡ true = sym c.is_result.ensures ∙ c.if-is_result.true in
    MatchResult-weaker c.function_with_result.result c.function_with_result.ensures
    (λ d g. passed_gives (is_result scope result) kind name next (found_as (plain_scope c.function_with_result.new.scope) (plain_judged_items d.slots.items d.body.items)) (uses_of c.args.used.now) (uses_of c.function_with_result.new.used) fits g)
    (λ error r. passed_refused (is_result scope result) kind name next error fits r)
