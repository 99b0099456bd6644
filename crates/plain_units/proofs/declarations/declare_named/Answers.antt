use Rattle.std.proofs.Common.{◌≡◌, refl, sym, ◌∙◌}
use Rattle.std.specs.Prelude.{Option, Some, option_map}
use Rattle.c_text.specs.Token.{PlainToken, plain_token}
use Rattle.c_types.specs.Types.{PlainType, plain_type}
use Rattle.c_tree.specs.Trees.{PlainTree, PlainTrees, node, plain_tree, plain_trees}
use Rattle.core_meaning.specs.Declarations.{name_in}
use Rattle.core_meaning.specs.UnitNames.{UnitState, Storage, declared_one}
use Rattle.plain_expressions.proofs.Answering.{judges_as}
use Rattle.plain_objects.specs.PlainStates.{plain_state, plain_storage}
use Rattle.plain_units.specs.Declarators.{declared_by_kind}
use Rattle.plain_units.proofs.Declarators.{named_one}
use Rattle.plain_units.proofs.declarations.declare_named.Goals as goal

pub returns-in-Some : goal.returns-in-Some
returns-in-Some c = λ globals.
    let unit : UnitState = plain_state globals c.args.unit.now in
    let storage : Storage = plain_storage c.args.storage in
    let ty : PlainType = plain_type c.args.base.now in
    let initialiser : Option PlainTree = option_map (λ t. plain_tree t.now) c.args.initialiser in
    let rest : PlainTrees = plain_trees c.args.rest.now in
    let parts : PlainTrees = plain_trees c.args.parts.now in
    let name : PlainToken = plain_token c.in-Some.name.now in
    let named : name_in parts ≡ Some name = sym c.name_in.ensures ∙ rw c.in-Some.is refl in
    judges_as (declared_one globals unit storage ty (node c.args.kind parts) initialiser rest) (declared_by_kind globals unit storage ty c.args.kind parts name initialiser rest) (λ (u : Unit {0}). plain_state globals c.declare_by_kind.new.unit) c.args.used.now c.declare_by_kind.new.used c.declare_by_kind.result
    (named_one globals unit storage ty c.args.kind parts name initialiser rest named)
    (c.declare_by_kind.ensures globals)
