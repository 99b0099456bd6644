use Rattle.choice_states.proofs.Branches.{holds_there}
use Rattle.choice_states.proofs.parts.one_holds.Goals as goal

pub returns-then-follows : goal.returns-then-follows
returns-then-follows c = λ t on all.
    holds_there on c.args.branches.now c.loop-when.when-index c.loop-when-item.result c.loop-when-test.true c.loop-when-item.is (c.follows.ensures c.if-follows.true on all)
