use Rattle.std.proofs.Common.{◌≤◌, map, subst, sym, ap, ◌∙◌, arith}
use Rattle.std.proofs.lemmas.List.{take_all}
use Rattle.choice_trees.specs.ChoiceTrees.{plain_item, plain_branches, plain_choices}
use Rattle.choice_trees.specs.Depths.{depth, branches_depth, choices_depth}
use Rattle.choice_trees.proofs.Depths.{branch_within, choice_within}
use Rattle.choice_states.proofs.PlainForms.{plain_branch, plain_part, same_branches, same_parts}
use Rattle.choice_states.proofs.copies.+copy.Goals as goal

pub copied_choice-copied_item-requires : goal.copied_choice-copied_item-requires
copied_choice-copied_item-requires t c =
    let within : depth (plain_item c.loop-when-item.result.1) ≤ branches_depth (plain_branches c.args.choice.now.branches.items) =
    subst (λ list. depth (plain_item c.loop-when-item.result.1) ≤ branches_depth (plain_branches list)) c.deref-when-items.ensures.value
    (subst (λ alternative. depth (plain_item alternative.1) ≤ branches_depth (plain_branches c.deref-when-items.result.now)) (sym c.loop-when-item.is)
    (branch_within c.deref-when-items.result.now c.loop-when.when-index c.loop-when-item.result c.loop-when-test.true)) in
    (omega (arith, within, c.decreases), tt)

pub copied_parts-copied_choice-requires : goal.copied_parts-copied_choice-requires
copied_parts-copied_choice-requires t c =
    let within : branches_depth (plain_branches c.part-item.result.branches.items) ≤ choices_depth (plain_choices c.args.parts.now) =
    subst (λ part. branches_depth (plain_branches part.branches.items) ≤ choices_depth (plain_choices c.args.parts.now)) (sym c.part-item.is)
    (choice_within c.args.parts.now c.loop-part.part-index c.part-item.result c.loop-part-test.true) in
    (omega (arith, within, c.decreases), tt)

pub copied_choice-returns : goal.copied_choice-returns
copied_choice-returns t c =
    same_branches c.loop-when.branches.items c.args.choice.now.branches.items
    (c.loop-when.invariant ∙ ap (map plain_branch) (take_all c.loop-when.when-index c.deref-when-items.result.now (omega (arith, c.loop-when-test.false)) ∙ c.deref-when-items.ensures.value))

pub copied_parts-returns : goal.copied_parts-returns
copied_parts-returns t c =
    same_parts c.loop-part.copies.items c.args.parts.now
    (c.loop-part.invariant ∙ ap (map plain_part) (take_all c.loop-part.part-index c.args.parts.now (omega (arith, c.loop-part-test.false))))
