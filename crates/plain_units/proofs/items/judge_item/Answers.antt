use Rattle.std.proofs.Common.{◌≡◌, ap, sym, ◌∙◌}
use Rattle.c_tree.specs.Trees.{PlainTree, PlainTrees, node, plain_tree, plain_trees}
use Rattle.c_tree.specs.TreeLaws.{plain_tree-Node}
use Rattle.core_meaning.specs.UnitNames.{UnitState, judged_item}
use Rattle.plain_expressions.proofs.Answering.{judges_as}
use Rattle.plain_objects.specs.PlainStates.{plain_state}
use Rattle.plain_units.proofs.items.judge_item.Goals as goal

pub returns-in-Node : goal.returns-in-Node
returns-in-Node c = λ globals.
    let unit : UnitState = plain_state globals c.args.unit.now in
    let behind : PlainTrees = plain_trees c.args.behind.now in
    let whole : PlainTree = node c.in-Node.kind (plain_trees c.deref.result.now) in
    let node_is : plain_tree c.args.tree.now ≡ whole = ap plain_tree c.in-Node.is ∙ plain_tree-Node c.in-Node.kind c.in-Node.parts ∙ ap (λ l. node c.in-Node.kind (plain_trees l)) (sym c.deref.ensures.value) in
    judges_as (judged_item globals unit (plain_tree c.args.tree.now) behind) (judged_item globals unit whole behind) (λ (u : Unit {0}). plain_state globals c.judge_by_kind.new.unit) c.args.used.now c.judge_by_kind.new.used c.judge_by_kind.result
    (ap (λ (t : PlainTree). judged_item globals unit t behind) node_is)
    (c.judge_by_kind.ensures globals)
