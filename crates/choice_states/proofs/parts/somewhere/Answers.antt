use Rattle.std.proofs.Common.{not, ◌||◌, ap, ◌∙◌}
use Rattle.cond_formula.specs.Conditions.{condition_of, value}
use Rattle.choice_trees.specs.ChoiceTrees.{plain_branches}
use Rattle.choice_states.specs.Seen.{branch_seen, seen_in}
use Rattle.choice_states.specs.Parts.{is_empty, is_there, values}
use Rattle.choice_states.proofs.PartLists.{somewhere_step}
use Rattle.choice_states.proofs.parts.somewhere.Goals as goal

pub loop-part-preserved : goal.loop-part-preserved
loop-part-preserved c = λ on.
    somewhere_step on c.args.parts.now c.loop-part.part-index c.part-item.result (value on (condition_of c.loop-part.some)) (value on (condition_of c.in_ok-some.some))
    (not (is_empty (values (seen_in on c.args.parts.now)))) c.loop-part-test.true c.part-item.is
    (c.in_ok-some.ensures on ∙ ap (λ items. value on (condition_of c.loop-part.some) || is_there (branch_seen on (plain_branches items))) c.deref.ensures.value)
    (c.loop-part.invariant on)
