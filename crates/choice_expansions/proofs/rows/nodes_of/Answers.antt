use Rattle.choice_expansions.proofs.Crossing.{one_node}
use Rattle.choice_expansions.proofs.rows.nodes_of.Goals as goal

pub loop-row-preserved : goal.loop-row-preserved
loop-row-preserved c = λ on.
    one_node on c.args.kind c.in-Some.row c.node_of.result c.loop-row.yielded c.loop-row.all.items c.push.new.self.items c.in_ok-push.ensures.items
    c.node_of.ensures.when c.node_of.ensures.tree (c.loop-row.invariant on)
