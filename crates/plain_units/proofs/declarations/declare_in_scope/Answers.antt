use Rattle.std.proofs.lemmas.Result.{MatchResult-weaker}
use Rattle.std.specs.Prelude.{Option, option_map}
use Rattle.c_text.specs.Token.{PlainToken, plain_token}
use Rattle.c_types.specs.Types.{PlainType, plain_type}
use Rattle.c_tree.specs.Trees.{PlainTree, PlainTrees, plain_tree, plain_trees}
use Rattle.core_meaning.specs.UnitNames.{UnitState, Storage}
use Rattle.plain_scope.specs.PlainScope.{plain_scope, uses_of}
use Rattle.plain_objects.specs.PlainStates.{plain_state, plain_storage}
use Rattle.plain_units.specs.Functions.{function_gives, function_refused}
use Rattle.plain_units.proofs.declarations.declare_in_scope.Goals as goal

pub returns : goal.returns
returns c = λ globals.
    let unit : UnitState = plain_state globals c.args.unit.now in
    let storage : Storage = plain_storage c.args.storage in
    let ty : PlainType = plain_type c.args.base.now in
    let parts : PlainTrees = plain_trees c.args.parts.now in
    let name : PlainToken = plain_token c.args.name.now in
    let initialiser : Option PlainTree = option_map (λ t. plain_tree t.now) c.args.initialiser in
    MatchResult-weaker c.declare_function.result c.declare_function.ensures
    (λ u g. function_gives unit storage ty parts name initialiser (plain_scope c.declare_function.new.scope) (uses_of c.args.used.now) (uses_of c.declare_function.new.used) g)
    (λ error r. function_refused unit storage ty parts name initialiser error r)
