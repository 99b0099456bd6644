use Rattle.std.proofs.Common.{List, map, subst}
use Rattle.std.proofs.lemmas.Result.{MatchResult-weaker}
use Rattle.c_text.specs.Token.{PlainToken, plain_token}
use Rattle.c_types.specs.Types.{PlainType, plain_type}
use Rattle.c_tree.specs.Trees.{PlainTree, PlainTrees, plain_tree, plain_trees}
use Rattle.core_meaning.specs.declared.program.Definition.{Definition}
use Rattle.core_meaning.specs.Declarations.{Parameter}
use Rattle.core_meaning.specs.Entities.{Scope}
use Rattle.core_meaning.specs.UnitNames.{Storage}
use Rattle.plain_scope.specs.PlainScope.{plain_scope, uses_of}
use Rattle.plain_scope.specs.Judgements.{Judges}
use Rattle.plain_parameters.specs.PlainParameters.{plain_parameter}
use Rattle.plain_parameters.specs.declared.parameters.Parameter.{Parameter as RustParameter}
use Rattle.plain_statements.specs.PlainJudged.{plain_judged_items}
use Rattle.plain_objects.specs.PlainStates.{plain_storage}
use Rattle.plain_units.specs.Functions.{FoundFunction, found_as, named_function, with_result_gives, with_result_refused}
use Rattle.plain_units.proofs.functions.function_with_result.Goals as goal

pub returns : goal.returns
returns c =
    let scope : Scope = plain_scope c.args.scope.now in
    let behind : Scope = plain_scope c.new_function.new.scope in
    let storage : Storage = plain_storage c.args.storage in
    let result : PlainType = plain_type c.args.returns.now in
    let parts : PlainTrees = plain_trees c.args.parts.now in
    let name : PlainToken = plain_token c.args.name.now in
    let body : PlainTree = plain_tree c.args.body.now in
    let parameters : List Parameter = map plain_parameter c.in_ok-parameters.parameters.items in
    let found : Definition → FoundFunction = λ d. found_as (plain_scope c.named_function.new.scope) (plain_judged_items d.slots.items d.body.items) in
    let named : Judges (named_function behind storage result name body parameters) found c.new_function.new.used c.named_function.new.used c.named_function.result =
    subst (λ (ps : List RustParameter). Judges (named_function behind storage result name body (map plain_parameter ps)) found c.new_function.new.used c.named_function.new.used c.named_function.result) c.as_slice.ensures.value c.named_function.ensures in
    MatchResult-weaker c.named_function.result named
    (λ d g. with_result_gives scope behind storage result parts name body parameters (found d) (uses_of c.args.used.now) (uses_of c.new_function.new.used) (uses_of c.named_function.new.used) c.in_ok-parameters.ensures.judged c.in_ok-parameters.ensures.same g)
    (λ error r. with_result_refused scope behind storage result parts name body parameters (uses_of c.args.used.now) (uses_of c.new_function.new.used) error c.in_ok-parameters.ensures.judged c.in_ok-parameters.ensures.same r)
