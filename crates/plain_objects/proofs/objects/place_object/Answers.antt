use Rattle.std.proofs.Common.{◌≡◌, rules}
use Rattle.std.proofs.lemmas.Result.{MatchResult-weaker}
use Rattle.std.specs.Prelude.{Option, option_map, is_some}
use Rattle.c_text.specs.Token.{PlainToken, plain_token}
use Rattle.c_types.specs.Types.{PlainType, plain_type}
use Rattle.c_tree.specs.Trees.{PlainTree, PlainTrees, plain_tree, plain_trees}
use Rattle.core_meaning.specs.Checking.{give}
use Rattle.core_meaning.specs.Entities.{Scope, variable}
use Rattle.core_meaning.specs.UnitNames.{UnitState, Storage, with_name, judged_global}
use Rattle.plain_scope.specs.PlainScope.{plain_scope, uses_of}
use Rattle.plain_scope.specs.Judgements.{RefusedAs}
use Rattle.plain_objects.specs.PlainStates.{plain_state, plain_storage}
use Rattle.plain_objects.specs.Placing.{placed_object, placed_gives, name_refused, judged_refused, definition_refused}
use Rattle.plain_objects.proofs.objects.place_object.Goals as goal

pub returns-in_err-declare_name : goal.returns-in_err-declare_name
returns-in_err-declare_name c = λ globals.
    let unit : UnitState = plain_state globals c.args.unit.now in
    let storage : Storage = plain_storage c.args.storage in
    let ty : PlainType = plain_type c.args.ty.now in
    let name : PlainToken = plain_token c.args.name.now in
    let initialiser : Option PlainTree = option_map (λ t. plain_tree t.now) c.args.initialiser in
    let named : RefusedAs (with_name (plain_scope c.args.unit.now.scope) name (variable ty) storage) c.in_err-declare_name.field-0.0 = search rules in
    let outer : RefusedAs (placed_object globals unit storage ty name initialiser (plain_trees c.args.rest.now)) c.in_err-declare_name.field-0.0 = name_refused globals unit storage ty name initialiser (plain_trees c.args.rest.now) c.in_err-declare_name.field-0.0 named in
    search (rules, outer)

pub returns-in_err-judge_global : goal.returns-in_err-judge_global
returns-in_err-judge_global c = λ globals.
    let unit : UnitState = plain_state globals c.args.unit.now in
    let storage : Storage = plain_storage c.args.storage in
    let ty : PlainType = plain_type c.args.ty.now in
    let name : PlainToken = plain_token c.args.name.now in
    let initialiser : Option PlainTree = option_map (λ t. plain_tree t.now) c.args.initialiser in
    let scope : Scope = plain_scope c.declare_name.new.scope in
    let named : with_name (plain_scope c.args.unit.now.scope) name (variable ty) storage ≡ give scope = search rules in
    let judged : RefusedAs (judged_global storage (is_some initialiser) scope ty name (plain_trees c.args.rest.now)) c.in_err-judge_global.field-0.0 = search rules in
    let outer : RefusedAs (placed_object globals unit storage ty name initialiser (plain_trees c.args.rest.now)) c.in_err-judge_global.field-0.0 = judged_refused globals unit storage ty name initialiser (plain_trees c.args.rest.now) scope c.in_err-judge_global.field-0.0 named judged in
    search (rules, outer)

pub returns : goal.returns
returns c = λ globals.
    let unit : UnitState = plain_state globals c.args.unit.now in
    let storage : Storage = plain_storage c.args.storage in
    let ty : PlainType = plain_type c.args.ty.now in
    let name : PlainToken = plain_token c.args.name.now in
    let initialiser : Option PlainTree = option_map (λ t. plain_tree t.now) c.args.initialiser in
    let rest : PlainTrees = plain_trees c.args.rest.now in
    let scope : Scope = plain_scope c.declare_name.new.scope in
    let named : with_name (plain_scope c.args.unit.now.scope) name (variable ty) storage ≡ give scope = search rules in
    let judged : judged_global storage (is_some initialiser) scope ty name rest ≡ give tt = search rules in
    MatchResult-weaker c.define_object.result (c.define_object.ensures globals)
    (λ u g. placed_gives globals unit storage ty name initialiser rest scope (plain_state globals c.define_object.new.unit) (uses_of c.args.used.now) (uses_of c.define_object.new.used) named judged g)
    (λ error r. definition_refused globals unit storage ty name initialiser rest scope error named judged r)
