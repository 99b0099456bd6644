use Rattle.std.proofs.Common.{IsTrue, subst}
use Rattle.choice_trees.specs.ChoiceTrees.{plain_branches}
use Rattle.choice_states.specs.Seen.{branch_seen}
use Rattle.choice_states.specs.Parts.{is_there}
use Rattle.choice_states.proofs.PartLists.{part_there}
use Rattle.choice_states.proofs.parts.one_is_there.Goals as goal

pub returns-then-one_holds : goal.returns-then-one_holds
returns-then-one_holds c = λ t on all.
    part_there on c.args.parts.now c.loop-part.part-index c.part-item.result c.loop-part-test.true c.part-item.is
    (subst (λ items. IsTrue (is_there (branch_seen on (plain_branches items)))) c.deref.ensures.value (c.one_holds.ensures c.if-one_holds.true on all))
