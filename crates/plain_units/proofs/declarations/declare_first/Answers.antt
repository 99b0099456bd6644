use Rattle.std.proofs.Common.{rules}
use Rattle.std.specs.Prelude.{option_map}
use Rattle.c_types.specs.Types.{PlainType, plain_type}
use Rattle.c_tree.specs.Trees.{PlainTrees, plain_tree, plain_trees}
use Rattle.core_meaning.specs.UnitNames.{UnitState, Storage, declared_one}
use Rattle.plain_scope.specs.PlainScope.{uses_of}
use Rattle.plain_scope.specs.Judgements.{RefusedAs}
use Rattle.plain_declarators.specs.Sequences.{gives_of, refused_of}
use Rattle.plain_objects.specs.PlainStates.{plain_state, plain_storage}
use Rattle.plain_units.specs.Declarators.{First, first_as, declared_first}
use Rattle.plain_units.proofs.Declarators.{first_is, size_is}
use Rattle.plain_units.proofs.declarations.declare_first.Goals as goal

pub returns-in_err-declare_one-clause-judged : goal.returns-in_err-declare_one-clause-judged
returns-in_err-declare_one-clause-judged c = λ globals.
    let unit : UnitState = plain_state globals c.args.unit.now in
    let storage : Storage = plain_storage c.args.storage in
    let ty : PlainType = plain_type c.args.base.now in
    let list : PlainTrees = plain_trees c.args.list.now in
    let rest : PlainTrees = plain_trees c.args.rest.now in
    let first : First = first_as (plain_tree c.in_ok-tree.tree.now) (option_map (λ t. plain_tree t.now) c.in_ok-tree.initialiser) c.in_ok-tree.size in
    let outer : RefusedAs (declared_first globals unit storage ty list rest) c.in_err-declare_one.field-0.0 = refused_of (declared_first globals unit storage ty list rest) (declared_one globals unit storage ty first.tree first.initialiser rest) c.in_err-declare_one.field-0.0 (first_is globals unit storage ty list rest first c.in_ok-tree.ensures) (c.in_err-declare_one.ensures globals) in
    search (rules, outer)

pub returns-clause-judged : goal.returns-clause-judged
returns-clause-judged c = λ globals.
    let unit : UnitState = plain_state globals c.args.unit.now in
    let storage : Storage = plain_storage c.args.storage in
    let ty : PlainType = plain_type c.args.base.now in
    let list : PlainTrees = plain_trees c.args.list.now in
    let rest : PlainTrees = plain_trees c.args.rest.now in
    let first : First = first_as (plain_tree c.in_ok-tree.tree.now) (option_map (λ t. plain_tree t.now) c.in_ok-tree.initialiser) c.in_ok-tree.size in
    gives_of (declared_first globals unit storage ty list rest) (declared_one globals unit storage ty first.tree first.initialiser rest) (plain_state globals c.declare_one.new.unit) (uses_of c.args.used.now) (uses_of c.declare_one.new.used) (first_is globals unit storage ty list rest first c.in_ok-tree.ensures) (c.in_ok-declare_one.ensures globals)

pub returns-clause-size : goal.returns-clause-size
returns-clause-size c =
    size_is (plain_trees c.args.list.now) (first_as (plain_tree c.in_ok-tree.tree.now) (option_map (λ t. plain_tree t.now) c.in_ok-tree.initialiser) c.in_ok-tree.size) c.in_ok-tree.ensures
