use Rattle.std.specs.Prelude.{Option, option_map}
use Rattle.c_text.specs.Token.{PlainToken, plain_token}
use Rattle.c_types.specs.Types.{PlainType, plain_type}
use Rattle.c_tree.specs.Trees.{PlainTree, PlainTrees, plain_tree, plain_trees}
use Rattle.core_meaning.specs.UnitNames.{UnitState, Storage, declared_function, declared_object}
use Rattle.plain_expressions.proofs.Answering.{judges_as}
use Rattle.plain_objects.specs.PlainStates.{plain_state, plain_storage}
use Rattle.plain_units.specs.Declarators.{declared_by_kind}
use Rattle.plain_units.proofs.Declarators.{for_function, for_object}
use Rattle.plain_units.proofs.declarations.declare_by_kind.Goals as goal

pub returns-in-FunctionDeclarator : goal.returns-in-FunctionDeclarator
returns-in-FunctionDeclarator c = λ globals.
    let unit : UnitState = plain_state globals c.args.unit.now in
    let storage : Storage = plain_storage c.args.storage in
    let ty : PlainType = plain_type c.args.base.now in
    let initialiser : Option PlainTree = option_map (λ t. plain_tree t.now) c.args.initialiser in
    let rest : PlainTrees = plain_trees c.args.rest.now in
    let parts : PlainTrees = plain_trees c.args.parts.now in
    let name : PlainToken = plain_token c.args.name.now in
    judges_as (declared_by_kind globals unit storage ty c.args.kind parts name initialiser rest) (declared_function unit storage ty parts name initialiser) (λ (u : Unit {0}). plain_state globals c.declare_in_scope.new.unit) c.args.used.now c.declare_in_scope.new.used c.declare_in_scope.result
    (for_function globals unit storage ty c.args.kind parts name initialiser rest c.in-FunctionDeclarator.is)
    (c.declare_in_scope.ensures globals)

pub returns-in_default : goal.returns-in_default
returns-in_default c = λ globals.
    let unit : UnitState = plain_state globals c.args.unit.now in
    let storage : Storage = plain_storage c.args.storage in
    let ty : PlainType = plain_type c.args.base.now in
    let initialiser : Option PlainTree = option_map (λ t. plain_tree t.now) c.args.initialiser in
    let rest : PlainTrees = plain_trees c.args.rest.now in
    let parts : PlainTrees = plain_trees c.args.parts.now in
    let name : PlainToken = plain_token c.args.name.now in
    judges_as (declared_by_kind globals unit storage ty c.args.kind parts name initialiser rest) (declared_object globals unit storage ty c.args.kind parts name initialiser rest) (λ (u : Unit {0}). plain_state globals c.declare_object.new.unit) c.args.used.now c.declare_object.new.used c.declare_object.result
    (for_object globals unit storage ty c.args.kind parts name initialiser rest c.in_default.not-FunctionDeclarator)
    (c.declare_object.ensures globals)
