use Rattle.std.proofs.Common.{◌+◌, ◌≤◌, subst, sym, ap, ◌∙◌, arith}
use Rattle.choice_trees.specs.ChoiceTrees.{plain_item, plain_branches, plain_choices}
use Rattle.choice_trees.specs.Depths.{depth, branches_depth, choices_depth}
use Rattle.choice_trees.proofs.Depths.{branch_within, choice_within}
use Rattle.changed_forests.specs.Changed.{changed_branches}
use Rattle.changed_forests.proofs.Appended.{BranchesSoFar, PartsSoFar, branches_end, one_branch, parts_end, one_part}
use Rattle.changed_forests.proofs.changing.+change.Goals as goal

pub changed_choice-changed_item_of-requires : goal.changed_choice-changed_item_of-requires
changed_choice-changed_item_of-requires g t c κs lives =
    let within : depth (plain_item c.loop-when-item.result.1) ≤ branches_depth (plain_branches c.args.choice.now.branches.items) =
    subst (λ list. depth (plain_item c.loop-when-item.result.1) ≤ branches_depth (plain_branches list)) c.deref-when-items.ensures.value
    (subst (λ alternative. depth (plain_item alternative.1) ≤ branches_depth (plain_branches c.deref-when-items.result.now)) (sym c.loop-when-item.is)
    (branch_within c.deref-when-items.result.now c.loop-when.when-index c.loop-when-item.result c.loop-when-test.true)) in
    (omega (arith, within, c.decreases), lives)

pub changed_choice-loop-when-preserved : goal.changed_choice-loop-when-preserved
changed_choice-loop-when-preserved g t c =
    subst (λ items. BranchesSoFar (g.C.TokenChange.change c.args.rule.now) c.deref-when-items.result.now (c.loop-when.when-index + 1) items) (sym c.in_ok-push.ensures.items)
    (one_branch (g.C.TokenChange.change c.args.rule.now) c.deref-when-items.result.now c.loop-when.when-index c.loop-when-item.result c.loop-when-test.true c.loop-when-item.is c.loop-when.branches.items c.loop-when.invariant
    c.in_ok-when.when c.in_ok-item.item c.in_ok-when.ensures c.in_ok-item.ensures)

pub changed_choice-returns : goal.changed_choice-returns
changed_choice-returns g t c =
    branches_end (g.C.TokenChange.change c.args.rule.now) c.deref-when-items.result.now c.loop-when.when-index c.loop-when.branches.items (omega (arith, c.loop-when-test.false)) c.loop-when.invariant
    ∙ ap (λ list. changed_branches (g.C.TokenChange.change c.args.rule.now) (plain_branches list)) c.deref-when-items.ensures.value

pub changed_parts-changed_choice-requires : goal.changed_parts-changed_choice-requires
changed_parts-changed_choice-requires g t c κs lives =
    let within : branches_depth (plain_branches c.part-item.result.branches.items) ≤ choices_depth (plain_choices c.args.parts.now) =
    subst (λ part. branches_depth (plain_branches part.branches.items) ≤ choices_depth (plain_choices c.args.parts.now)) (sym c.part-item.is)
    (choice_within c.args.parts.now c.loop-part.part-index c.part-item.result c.loop-part-test.true) in
    (omega (arith, within, c.decreases), lives)

pub changed_parts-loop-part-preserved : goal.changed_parts-loop-part-preserved
changed_parts-loop-part-preserved g t c =
    subst (λ items. PartsSoFar (g.C.TokenChange.change c.args.rule.now) c.args.parts.now (c.loop-part.part-index + 1) items) (sym c.in_ok-push.ensures.items)
    (one_part (g.C.TokenChange.change c.args.rule.now) c.args.parts.now c.loop-part.part-index c.part-item.result c.loop-part-test.true c.part-item.is c.loop-part.all.items c.loop-part.invariant
    c.in_ok-part.part c.in_ok-part.ensures)

pub changed_parts-returns : goal.changed_parts-returns
changed_parts-returns g t c =
    parts_end (g.C.TokenChange.change c.args.rule.now) c.args.parts.now c.loop-part.part-index c.loop-part.all.items (omega (arith, c.loop-part-test.false)) c.loop-part.invariant
