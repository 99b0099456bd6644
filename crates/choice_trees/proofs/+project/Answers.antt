use Rattle.std.proofs.Common.{◌+◌, ◌≤◌, subst, sym, ap, ◌∙◌, arith}
use Rattle.std.specs.Option.{option_map}
use Rattle.cond_formula.specs.Features.{has}
use Rattle.c_tree.specs.Trees.{plain_tree}
use Rattle.choice_trees.specs.ChoiceTrees.{plain_item, plain_branches, plain_choices}
use Rattle.choice_trees.specs.Depths.{depth, branches_depth, choices_depth}
use Rattle.choice_trees.proofs.Depths.{branch_within, choice_within}
use Rattle.choice_trees.proofs.Parts.{SoFar, one_part, no_part, left_out, parts_end}
use Rattle.choice_trees.proofs.+project.Goals as goal
use Rattle.choice_trees.proofs.+project.Goals.{projecting::trees_at-in-Some+in_ok-push-in-Some, projecting::trees_at-in-None+then-needs_statement+in_ok-no_statement-in-None+in_ok-push-in-None, projecting::trees_at-in-None+else-needs_statement}

pub projecting::Choice+Item::tree_at-tree_at-requires :
    goal.projecting::Choice+Item::tree_at-tree_at-requires
projecting::Choice+Item::tree_at-tree_at-requires t c =
    let within : depth (plain_item c.loop-when-item.result.1) ≤ branches_depth (plain_branches c.args.self.now.branches.items) =
    subst (λ list. depth (plain_item c.loop-when-item.result.1) ≤ branches_depth (plain_branches list)) c.deref-when-items.ensures.value
    (subst (λ alternative. depth (plain_item alternative.1) ≤ branches_depth (plain_branches c.deref-when-items.result.now)) (sym c.loop-when-item.is)
    (branch_within c.deref-when-items.result.now c.loop-when.when-index c.loop-when-item.result c.loop-when-test.true)) in
    (omega (arith, within, c.decreases), tt)

pub projecting::trees_at-tree_at-requires : goal.projecting::trees_at-tree_at-requires
projecting::trees_at-tree_at-requires t c =
    let within : branches_depth (plain_branches c.index-parts-place.result.branches.items) ≤ choices_depth (plain_choices c.args.parts.now) =
    subst (λ part. branches_depth (plain_branches part.branches.items) ≤ choices_depth (plain_choices c.args.parts.now)) (sym c.index-parts-place.is)
    (choice_within c.args.parts.now c.loop-place.place c.index-parts-place.result c.loop-place-test.true) in
    (omega (arith, within, c.decreases), tt)

pub projecting::trees_at-loop-place-preserved : goal.projecting::trees_at-loop-place-preserved
projecting::trees_at-loop-place-preserved t c =
    elim c.match-branch-2.branch [
      | projecting::trees_at-in-Some+in_ok-push-in-Some w ↦
          one_part (has c.args.c) c.args.kind c.args.parts.now c.loop-place.place c.index-parts-place.result c.loop-place-test.true c.index-parts-place.is c.loop-place.trees.items c.loop-place.invariant
          w.in-Some.tree c.match-branch-2.trees.items (ap (λ v. v.items) w.trees-is ∙ w.in_ok-push-in-Some.ensures.items) (sym c.in_ok-tree.ensures ∙ ap (option_map plain_tree) w.in-Some.is)
      | projecting::trees_at-in-None+then-needs_statement+in_ok-no_statement-in-None+in_ok-push-in-None w ↦
          no_part (has c.args.c) c.args.kind c.args.parts.now c.loop-place.place c.index-parts-place.result c.loop-place-test.true c.index-parts-place.is c.loop-place.trees.items c.loop-place.invariant
          w.in_ok-no_statement-in-None.field-0 c.match-branch-2.trees.items (ap (λ v. v.items) w.trees-is ∙ w.in_ok-push-in-None.ensures.items) (sym c.in_ok-tree.ensures ∙ ap (option_map plain_tree) w.in-None.is) (sym w.needs_statement.ensures ∙ w.if-needs_statement.true) w.in_ok-no_statement-in-None.ensures
      | projecting::trees_at-in-None+else-needs_statement w ↦
          subst (λ v. SoFar (has c.args.c) c.args.kind c.args.parts.now (c.loop-place.place + 1) v.items) (sym w.trees-is)
          (left_out (has c.args.c) c.args.kind c.args.parts.now c.loop-place.place c.index-parts-place.result c.loop-place-test.true c.index-parts-place.is c.loop-place.trees.items c.loop-place.invariant
          (sym c.in_ok-tree.ensures ∙ ap (option_map plain_tree) w.in-None.is) (sym w.needs_statement.ensures ∙ w.if-needs_statement.false))
    ]

pub projecting::trees_at-returns : goal.projecting::trees_at-returns
projecting::trees_at-returns t c =
    parts_end (has c.args.c) c.args.kind c.args.parts.now c.loop-place.place c.loop-place.trees.items (omega (arith, c.loop-place-test.false)) c.loop-place.invariant
