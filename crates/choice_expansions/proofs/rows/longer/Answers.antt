use Rattle.c_tree.specs.Trees.{more, plain_tree}
use Rattle.choice_expansions.proofs.Crossing.{one_copied, one_behind}
use Rattle.choice_expansions.proofs.rows.longer.Goals as goal

pub loop-part-preserved : goal.loop-part-preserved
loop-part-preserved c = λ rest.
    one_copied c.args.trees.now c.loop-part.part-index c.part-item.result c.in_ok-try_clone.field-0 c.loop-part.all.items c.push.new.self.items rest c.loop-part-test.true c.part-item.is
    c.in_ok-push.ensures.items c.in_ok-try_clone.ensures (c.loop-part.invariant rest)

pub returns : goal.returns
returns c = λ rest.
    one_behind c.args.trees.now c.loop-part.part-index c.args.tree.now c.in_ok-try_clone-2.field-0 c.loop-part.all.items c.push-2.new.self.items rest c.loop-part-test.false
    c.in_ok-push-2.ensures.items c.in_ok-try_clone-2.ensures (c.loop-part.invariant (more (plain_tree c.args.tree.now) rest))
