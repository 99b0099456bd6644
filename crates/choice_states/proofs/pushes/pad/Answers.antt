use Rattle.std.proofs.Common.{length, ap, ◌∙◌, arith, length-append}
use Rattle.choice_trees.specs.ChoiceTrees.{plain_branches}
use Rattle.choice_states.specs.Seen.{branch_seen, seen_in}
use Rattle.choice_states.proofs.PartLists.{none_behind}
use Rattle.choice_states.proofs.pushes.pad.Goals as goal

pub loop-preserved : goal.loop-preserved
loop-preserved c =
    let long = simp length-append at (ap length c.in_ok-push.ensures.items) in
    let so_far = c.loop.invariant.1 in (
      λ on.
          ap (seen_in on) c.in_ok-push.ensures.items
          ∙ none_behind on c.loop.parts.items (record { branches = c.new.result }) (ap (λ items. branch_seen on (plain_branches items)) c.new.ensures.items)
          ∙ c.loop.invariant.0 on,
      omega (arith, long, so_far),
    )
