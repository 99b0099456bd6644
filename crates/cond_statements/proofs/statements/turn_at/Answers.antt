use Rattle.std.proofs.Common.{sym, ap, ◌∙◌}
use Rattle.std.specs.Prelude.{if◌then◌else◌}
use Rattle.cond_formula.specs.Conditions.{condition_of, value}
use Rattle.c_tree.specs.Trees.{PlainTree, none, more}
use Rattle.choice_trees.specs.ChoiceTrees.{plain_item, item_at}
use Rattle.choice_trees.specs.ItemLaws.{plain_item-Node}
use Rattle.cond_statements.specs.Readings.{turned_behind}
use Rattle.cond_statements.proofs.Walking.{if_same}
use Rattle.cond_statements.proofs.statements.turn_at.Goals as goal

pub returns-in-Node-clause-turned : goal.returns-in-Node-clause-turned
returns-in-Node-clause-turned c = λ on.
    let when = value on (condition_of c.args.when.now) in
    let turned = value on (condition_of c.args.walk.now.turned) in
    if_same when turned
    ∙ sym (ap (λ (tree : PlainTree). if when then turned_behind c.args.kind turned (more tree none) else turned)
    (ap (λ i. item_at on (plain_item i)) c.in-Node.is ∙ ap (item_at on) (plain_item-Node c.in-Node.field-0 c.in-Node.field-1)))
