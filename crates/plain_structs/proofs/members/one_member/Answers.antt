use Rattle.std.proofs.Common.{◌≡◌, ap, sym, ◌∙◌}
use Rattle.c_types.specs.Types.{PlainType, plain_type}
use Rattle.c_tree.specs.Trees.{PlainTree, node, plain_tree, plain_trees}
use Rattle.c_tree.specs.TreeLaws.{plain_tree-Node}
use Rattle.core_meaning.specs.UnitNames.{Members, one_member}
use Rattle.plain_scope.specs.PlainScope.{plain_scope}
use Rattle.plain_expressions.proofs.Answering.{judges_as}
use Rattle.plain_structs.specs.PlainMembers.{plain_members}
use Rattle.plain_structs.proofs.members.one_member.Goals as goal

pub returns-in-Node : goal.returns-in-Node
returns-in-Node c =
    let scope = plain_scope c.args.scope.now in
    let known : Members = plain_members c.args.known.now in
    let ty : PlainType = plain_type c.args.base.now in
    let whole : PlainTree = node c.in-Node.kind (plain_trees c.deref.result.now) in
    let node_is : plain_tree c.args.tree.now ≡ whole = ap plain_tree c.in-Node.is ∙ plain_tree-Node c.in-Node.kind c.in-Node.parts ∙ ap (λ l. node c.in-Node.kind (plain_trees l)) (sym c.deref.ensures.value) in
    judges_as (one_member scope c.args.number known ty (plain_tree c.args.tree.now)) (one_member scope c.args.number known ty whole) (λ (u : Unit {0}). plain_members c.named_member.new.known) c.args.used.now c.named_member.new.used c.named_member.result
    (ap (one_member scope c.args.number known ty) node_is)
    c.named_member.ensures
