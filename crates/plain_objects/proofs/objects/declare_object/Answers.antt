use Rattle.std.proofs.lemmas.Result.{MatchResult-weaker}
use Rattle.std.proofs.Common.{rules}
use Rattle.std.specs.Prelude.{Option, option_map}
use Rattle.c_text.specs.Token.{PlainToken, plain_token}
use Rattle.c_types.specs.Types.{PlainType, plain_type}
use Rattle.c_tree.specs.Trees.{PlainTree, PlainTrees, plain_tree, plain_trees}
use Rattle.core_meaning.specs.UnitNames.{UnitState, Storage, declared_object}
use Rattle.plain_scope.specs.PlainScope.{uses_of}
use Rattle.plain_scope.specs.Judgements.{RefusedAs}
use Rattle.plain_objects.specs.PlainStates.{plain_state, plain_storage}
use Rattle.plain_objects.specs.Placing.{object_declared, type_refused, placing_refused}
use Rattle.plain_objects.proofs.objects.declare_object.Goals as goal

pub returns-in_err-ty : goal.returns-in_err-ty
returns-in_err-ty c = λ globals.
    let unit : UnitState = plain_state globals c.args.unit.now in
    let storage : Storage = plain_storage c.args.storage in
    let base : PlainType = plain_type c.args.base.now in
    let parts : PlainTrees = plain_trees c.args.parts.now in
    let name : PlainToken = plain_token c.args.name.now in
    let initialiser : Option PlainTree = option_map (λ t. plain_tree t.now) c.args.initialiser in
    let rest : PlainTrees = plain_trees c.args.rest.now in
    let outer : RefusedAs (declared_object globals unit storage base c.args.kind parts name initialiser rest) c.in_err-ty.field-0.0 = type_refused globals unit storage base c.args.kind parts name initialiser rest c.in_err-ty.field-0.0 c.in_err-ty.ensures in
    search (rules, outer)

pub returns : goal.returns
returns c = λ globals.
    let unit : UnitState = plain_state globals c.args.unit.now in
    let storage : Storage = plain_storage c.args.storage in
    let base : PlainType = plain_type c.args.base.now in
    let parts : PlainTrees = plain_trees c.args.parts.now in
    let name : PlainToken = plain_token c.args.name.now in
    let initialiser : Option PlainTree = option_map (λ t. plain_tree t.now) c.args.initialiser in
    let rest : PlainTrees = plain_trees c.args.rest.now in
    let ty : PlainType = plain_type c.in_ok-ty.ty in
    MatchResult-weaker c.place_object.result (c.place_object.ensures globals)
    (λ u g. object_declared globals unit storage base c.args.kind parts name initialiser rest ty (plain_state globals c.place_object.new.unit) (uses_of c.args.used.now) (uses_of c.object_type.new.used) (uses_of c.place_object.new.used) c.in_ok-ty.ensures g)
    (λ error r. placing_refused globals unit storage base c.args.kind parts name initialiser rest ty (uses_of c.args.used.now) (uses_of c.object_type.new.used) error c.in_ok-ty.ensures r)
