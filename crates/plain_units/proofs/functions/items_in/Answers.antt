use Rattle.std.proofs.Common.{◌≡◌, map, ap, sym, ◌∙◌}
use Rattle.std.specs.Prelude.{Vec}
use Rattle.std.specs.declared.alloc.Global.{Global}
use Rattle.c_types.specs.Types.{plain_type}
use Rattle.c_tree.specs.declared.kinds.Kind.{Kind}
use Rattle.c_tree.specs.declared.kinds.Kind.TheVariants as k
use Rattle.c_tree.specs.Trees.{PlainTrees, node, plain_tree, plain_trees}
use Rattle.c_tree.specs.TreeLaws.{plain_tree-Node}
use Rattle.core_meaning.specs.declared.statements.Item.{Item}
use Rattle.plain_scope.specs.PlainScope.{plain_scope}
use Rattle.plain_expressions.proofs.Answering.{judges_as}
use Rattle.plain_statements.specs.PlainJudged.{plain_judged_items}
use Rattle.plain_units.specs.Functions.{items_in}
use Rattle.plain_units.proofs.functions.items_in.Goals as goal

pub returns-in-Items-clause-judged : goal.returns-in-Items-clause-judged
returns-in-Items-clause-judged c =
    let scope = plain_scope c.args.scope.now in
    let result = plain_type c.args.returns.now in
    let slots = map plain_type c.args.slots.now.items in
    let parts : PlainTrees = plain_trees c.deref.result.now in
    let node_is : plain_tree c.args.list.now ≡ node c.in-Node.kind parts = ap plain_tree c.in-Node.is ∙ plain_tree-Node c.in-Node.kind c.in-Node.parts ∙ ap (λ l. node c.in-Node.kind (plain_trees l)) (sym c.deref.ensures.value) in
    judges_as (items_in scope result slots (plain_tree c.args.list.now)) (items_in scope result slots (node k.Items parts)) (λ (items : Vec Item Global). plain_judged_items c.statement_items.new.slots.items items.items) c.args.used.now c.statement_items.new.used c.statement_items.result
    (ap (items_in scope result slots) (node_is ∙ ap (λ (x : Kind). node x parts) c.in-Items.is))
    c.statement_items.ensures.judged
