use Rattle.std.proofs.Common.{◌≡◌, suc, ◌≤◌, false, ◌&&◌, refl, sym, ap, subst, ◌∙◌, arith}
use Rattle.cond_formula.specs.Features.{has}
use Rattle.cond_formula.specs.Conditions.{condition_of, value}
use Rattle.cond_formula.specs.ConditionLaws.{condition_of-True, condition_of-False}
use Rattle.choice_trees.specs.ChoiceTrees.{inner, plain_item, plain_branches, plain_choices, item_at, branch_at, parts_at}
use Rattle.choice_trees.specs.ItemLaws.{plain_item-Leaf, plain_item-Node}
use Rattle.choice_trees.specs.Leaves.{item_leaves, branch_leaves}
use Rattle.choice_trees.specs.Depths.{depth, branches_depth, choices_depth}
use Rattle.choice_trees.proofs.Depths.{choice_within, branch_within}
use Rattle.conditional.specs.Entries.{seen, listed}
use Rattle.selections.specs.Selections.{structure_of_node, selected_in}
use Rattle.cond_selections.specs.Selected.{plain_selection}
use Rattle.cond_selections.specs.Progress.{Logs, turns_if_any, selected_if_any}
use Rattle.cond_selections.proofs.Choosing.{TurnsSoFar, LogsSoFar, turns_start, turns_next, turns_end, logs_start, logs_next, logs_end}
use Rattle.cond_selections.proofs.Parts.{parts_start, parts_next, parts_end}
use Rattle.cond_selections.proofs.walks.+walk.Goals as goal

-- ---- one part

pub push_part-push_node-requires : goal.push_part-push_node-requires
push_part-push_node-requires g t c =
    let deep : depth (plain_item c.args.item.now) ≡ suc (choices_depth (plain_choices c.deref.result.now)) =
    ap (λ item. depth (plain_item item)) c.in-Node.is ∙ (ap depth (plain_item-Node c.in-Node.kind c.in-Node.parts) ∙
    ap (λ list. suc (choices_depth (plain_choices list))) (sym c.deref.ensures.value)) in
    λ κs lives. (omega (arith, deep, c.decreases), lives)

pub push_part-returns-in_ok-push_token-in-Leaf-clause-logs : goal.push_part-returns-in_ok-push_token-in-Leaf-clause-logs
push_part-returns-in_ok-push_token-in-Leaf-clause-logs g t c = λ n owner right admitted shows.
    subst (λ item. Logs (value (has n) (condition_of c.args.when.now)) (item_leaves (has n) item) (selected_in (g.K.Knowledge.known c.args.known.now n) owner (value (has n) (condition_of c.args.turned.now)) (item_at (has n) item))
    (seen (has n) (listed plain_selection c.args.log.now)) (seen (has n) (listed plain_selection c.push_token.new.log)))
    (sym (ap plain_item c.in-Leaf.is ∙ plain_item-Leaf c.in-Leaf.field-0 c.in-Leaf.token))
    (c.in_ok-push_token-in-Leaf.ensures (has n) owner c.in-Leaf.field-0 shows)

pub push_part-returns-in_ok-push_node-in-Node-clause-logs : goal.push_part-returns-in_ok-push_node-in-Node-clause-logs
push_part-returns-in_ok-push_node-in-Node-clause-logs g t c = λ n owner right admitted shows.
    subst (λ item. Logs (value (has n) (condition_of c.args.when.now)) (item_leaves (has n) item) (selected_in (g.K.Knowledge.known c.args.known.now n) owner (value (has n) (condition_of c.args.turned.now)) (item_at (has n) item))
    (seen (has n) (listed plain_selection c.args.log.now)) (seen (has n) (listed plain_selection c.push_node.new.log)))
    (ap (λ list. inner c.in-Node.kind (plain_choices list)) c.deref.ensures.value ∙ sym (ap plain_item c.in-Node.is ∙ plain_item-Node c.in-Node.kind c.in-Node.parts))
    (c.in_ok-push_node-in-Node.ensures.logs n right admitted)

-- ---- alternatives

pub push_choice-push_part-requires : goal.push_choice-push_part-requires
push_choice-push_part-requires g t c =
    let low : depth (plain_item c.loop-alternative-item.result.1) ≤ branches_depth (plain_branches c.deref-alternative-items.result.now) =
    subst (λ b. depth (plain_item b.1) ≤ branches_depth (plain_branches c.deref-alternative-items.result.now)) (sym c.loop-alternative-item.is)
    (branch_within c.deref-alternative-items.result.now c.loop-alternative.alternative-index c.loop-alternative-item.result c.loop-alternative-test.true) in
    let same : branches_depth (plain_branches c.deref-alternative-items.result.now) ≡ branches_depth (plain_branches c.args.choice.now.branches.items) =
    ap (λ list. branches_depth (plain_branches list)) c.deref-alternative-items.ensures.value in
    λ κs lives. (omega (arith, low, same, c.decreases), lives)

pub push_choice-loop-alternative-init : goal.push_choice-loop-alternative-init
push_choice-loop-alternative-init g t c = record {
  kept = refl;
  turns = λ on.
      subst (λ b. TurnsSoFar on (plain_branches c.deref-alternative-items.result.now) (value on (condition_of c.args.turned.now)) b (plain_branches c.deref-alternative-items.result.now) (value on (condition_of c.in_ok-behind.behind)))
      (sym (ap (value on) condition_of-True))
      (subst (λ f. TurnsSoFar on (plain_branches c.deref-alternative-items.result.now) (value on (condition_of c.args.turned.now)) Rattle.std.proofs.Common.true (plain_branches c.deref-alternative-items.result.now) (value on f))
      (sym c.in_ok-behind.ensures) (turns_start on (plain_branches c.deref-alternative-items.result.now) (value on (condition_of c.args.turned.now))));
  so_far = λ n owner right admitted shows.
      subst (λ b. LogsSoFar (has n) (plain_branches c.deref-alternative-items.result.now) (g.K.Knowledge.known c.args.known.now n) owner (value (has n) (condition_of c.args.turned.now)) (value (has n) (condition_of c.args.when.now))
      (seen (has n) (listed plain_selection c.args.log.now)) b (plain_branches c.deref-alternative-items.result.now) (seen (has n) (listed plain_selection c.args.log.now)))
      (sym (ap (value (has n)) condition_of-True))
      (logs_start (has n) (plain_branches c.deref-alternative-items.result.now) (g.K.Knowledge.known c.args.known.now n) owner (value (has n) (condition_of c.args.turned.now)) (value (has n) (condition_of c.args.when.now))
      (seen (has n) (listed plain_selection c.args.log.now)));
}

pub push_choice-loop-alternative-preserved : goal.push_choice-loop-alternative-preserved
push_choice-loop-alternative-preserved g t c = record {
  kept = c.in_ok-push_part.ensures.kept ∙ c.loop-alternative.invariant.kept;
  turns = λ on.
      turns_next on (plain_branches c.deref-alternative-items.result.now) (value on (condition_of c.args.turned.now)) c.deref-alternative-items.result.now c.loop-alternative.alternative-index c.loop-alternative-item.result
      (value on (condition_of c.loop-alternative.left)) (value on (condition_of c.in_ok-here.here)) (value on (condition_of c.in_ok-left.left)) (value on (condition_of c.loop-alternative.behind)) (value on (condition_of c.in_ok-behind-2.behind))
      c.loop-alternative-test.true c.loop-alternative-item.is (c.in_ok-here.ensures on) (c.in_ok-behind-2.ensures on) (c.in_ok-left.ensures on) (c.loop-alternative.invariant.turns on);
  so_far = λ n owner right admitted shows.
      logs_next (has n) (plain_branches c.deref-alternative-items.result.now) (g.K.Knowledge.known c.args.known.now n) owner (value (has n) (condition_of c.args.turned.now)) (value (has n) (condition_of c.args.when.now))
      (seen (has n) (listed plain_selection c.args.log.now)) c.deref-alternative-items.result.now c.loop-alternative.alternative-index c.loop-alternative-item.result
      (value (has n) (condition_of c.loop-alternative.left)) (value (has n) (condition_of c.in_ok-path.path)) (value (has n) (condition_of c.in_ok-left.left))
      (seen (has n) (listed plain_selection c.loop-alternative.log)) (seen (has n) (listed plain_selection c.push_part.new.log)) c.loop-alternative-test.true c.loop-alternative-item.is
      (c.in_ok-path.ensures (has n) ∙ ap (λ b. value (has n) (condition_of c.args.when.now) && b) (c.in_ok-here.ensures (has n))) (c.in_ok-left.ensures (has n))
      (c.in_ok-push_part.ensures.logs n owner right (ap (value (has n)) c.loop-alternative.invariant.kept ∙ admitted) shows)
      (c.loop-alternative.invariant.so_far n owner right admitted shows);
}

pub push_choice-returns-clause-turned : goal.push_choice-returns-clause-turned
push_choice-returns-clause-turned g t c = λ on.
    turns_end on (plain_branches c.deref-alternative-items.result.now) (value on (condition_of c.args.turned.now)) c.deref-alternative-items.result.now c.loop-alternative.alternative-index
    (value on (condition_of c.loop-alternative.left)) (value on (condition_of c.loop-alternative.behind)) c.loop-alternative-test.false (c.loop-alternative.invariant.turns on)
    ∙ ap (λ list. Rattle.std.proofs.Common.◌||◌ (value on (condition_of c.args.turned.now)) (turns_if_any (branch_at on (plain_branches list)))) c.deref-alternative-items.ensures.value

pub push_choice-returns-clause-logs : goal.push_choice-returns-clause-logs
push_choice-returns-clause-logs g t c = λ n owner needed right admitted shows.
    subst (λ list. Logs (value (has n) (condition_of c.args.when.now)) (branch_leaves (has n) needed (plain_branches list))
    (selected_if_any (g.K.Knowledge.known c.args.known.now n) owner (value (has n) (condition_of c.args.turned.now)) (branch_at (has n) (plain_branches list)))
    (seen (has n) (listed plain_selection c.args.log.now)) (seen (has n) (listed plain_selection c.loop-alternative.log))) c.deref-alternative-items.ensures.value
    (logs_end (has n) (plain_branches c.deref-alternative-items.result.now) (g.K.Knowledge.known c.args.known.now n) owner (value (has n) (condition_of c.args.turned.now)) (value (has n) (condition_of c.args.when.now))
    (seen (has n) (listed plain_selection c.args.log.now)) c.deref-alternative-items.result.now c.loop-alternative.alternative-index needed (value (has n) (condition_of c.loop-alternative.left))
    (seen (has n) (listed plain_selection c.loop-alternative.log)) c.loop-alternative-test.false (c.loop-alternative.invariant.so_far n owner right admitted shows))

-- ---- parts

pub push_parts-push_choice-requires : goal.push_parts-push_choice-requires
push_parts-push_choice-requires g t c =
    let low : branches_depth (plain_branches c.part-item.result.branches.items) ≤ choices_depth (plain_choices c.args.parts.now) =
    subst (λ part. branches_depth (plain_branches part.branches.items) ≤ choices_depth (plain_choices c.args.parts.now)) (sym c.part-item.is)
    (choice_within c.args.parts.now c.loop-part.part-index c.part-item.result c.loop-part-test.true) in
    λ κs lives. (omega (arith, low, c.decreases), lives)

pub push_parts-loop-part-init : goal.push_parts-loop-part-init
push_parts-loop-part-init g t c = record {
  kept = refl;
  so_far = λ n owner kind right admitted shows.
      parts_start (g.K.Knowledge.known c.args.known.now n) owner (has n) kind c.args.parts.now (value (has n) (condition_of c.args.when.now)) (seen (has n) (listed plain_selection c.args.log.now)) _ (ap (value (has n)) condition_of-False);
}

pub push_parts-loop-part-preserved : goal.push_parts-loop-part-preserved
push_parts-loop-part-preserved g t c = record {
  kept = c.in_ok-turned.ensures.kept ∙ c.loop-part.invariant.kept;
  so_far = λ n owner kind right admitted shows.
      parts_next (g.K.Knowledge.known c.args.known.now n) owner (has n) kind c.args.parts.now (value (has n) (condition_of c.args.when.now)) (seen (has n) (listed plain_selection c.args.log.now))
      c.loop-part.part-index c.part-item.result (value (has n) (condition_of c.loop-part.turned)) (value (has n) (condition_of c.in_ok-turned.turned)) (seen (has n) (listed plain_selection c.loop-part.log)) (seen (has n) (listed plain_selection c.push_choice.new.log))
      c.loop-part-test.true c.part-item.is (c.in_ok-turned.ensures.turned (has n))
      (λ needed. c.in_ok-turned.ensures.logs n owner needed right (ap (value (has n)) c.loop-part.invariant.kept ∙ admitted) shows)
      (c.loop-part.invariant.so_far n owner kind right admitted shows);
}

pub push_parts-returns-clause-logs : goal.push_parts-returns-clause-logs
push_parts-returns-clause-logs g t c = λ n owner kind right admitted shows.
    parts_end (g.K.Knowledge.known c.args.known.now n) owner (has n) kind c.args.parts.now (value (has n) (condition_of c.args.when.now)) (seen (has n) (listed plain_selection c.args.log.now))
    c.loop-part.part-index (value (has n) (condition_of c.loop-part.turned)) (seen (has n) (listed plain_selection c.loop-part.log)) c.loop-part-test.false
    (c.loop-part.invariant.so_far n owner kind right admitted shows)

-- ---- nodes

pub push_node-push_parts-requires : goal.push_node-push_parts-requires
push_node-push_parts-requires g t c κs within = (omega (arith, c.decreases), within)

pub push_node-returns-clause-logs : goal.push_node-returns-clause-logs
push_node-returns-clause-logs g t c = λ n right admitted.
    c.in_ok-push_parts.ensures.logs n (structure_of_node (g.K.Knowledge.known c.args.known.now n) c.args.kind (parts_at (has n) c.args.kind 0 (plain_choices c.args.parts.now))) c.args.kind right
    (ap (value (has n)) c.in_ok-structures.ensures.kept ∙ admitted) (c.in_ok-structures.ensures.shows n right admitted)
