use Rattle.std.proofs.Common.{◌≡◌, ap, sym, ◌∙◌}
use Rattle.std.specs.Prelude.{Option, option_map}
use Rattle.c_types.specs.Types.{PlainType, plain_type}
use Rattle.c_tree.specs.Trees.{PlainTree, PlainTrees, node, plain_tree, plain_trees}
use Rattle.c_tree.specs.TreeLaws.{plain_tree-Node}
use Rattle.core_meaning.specs.UnitNames.{UnitState, Storage, declared_one}
use Rattle.plain_expressions.proofs.Answering.{judges_as}
use Rattle.plain_objects.specs.PlainStates.{plain_state, plain_storage}
use Rattle.plain_units.proofs.declarations.declare_one.Goals as goal

pub returns-in-Node : goal.returns-in-Node
returns-in-Node c = λ globals.
    let unit : UnitState = plain_state globals c.args.unit.now in
    let storage : Storage = plain_storage c.args.storage in
    let ty : PlainType = plain_type c.args.base.now in
    let initialiser : Option PlainTree = option_map (λ t. plain_tree t.now) c.args.initialiser in
    let rest : PlainTrees = plain_trees c.args.rest.now in
    let whole : PlainTree = node c.in-Node.kind (plain_trees c.deref.result.now) in
    let node_is : plain_tree c.args.tree.now ≡ whole = ap plain_tree c.in-Node.is ∙ plain_tree-Node c.in-Node.kind c.in-Node.parts ∙ ap (λ l. node c.in-Node.kind (plain_trees l)) (sym c.deref.ensures.value) in
    judges_as (declared_one globals unit storage ty (plain_tree c.args.tree.now) initialiser rest) (declared_one globals unit storage ty whole initialiser rest) (λ (u : Unit {0}). plain_state globals c.declare_named.new.unit) c.args.used.now c.declare_named.new.used c.declare_named.result
    (ap (λ t. declared_one globals unit storage ty t initialiser rest) node_is)
    (c.declare_named.ensures globals)
