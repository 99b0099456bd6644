use Rattle.std.proofs.Common.{◌≡◌, suc, ◌≤◌, true, ◌&&◌, ◌||◌, refl, sym, ap, subst, ◌∙◌, arith}
use Rattle.cond_formula.specs.Features.{has}
use Rattle.cond_formula.specs.Conditions.{condition_of, value}
use Rattle.cond_formula.specs.ConditionLaws.{condition_of-True, condition_of-False}
use Rattle.c_tree.specs.declared.kinds.Kind.TheVariants as k
use Rattle.choice_trees.specs.ChoiceTrees.{inner, plain_item, plain_branches, plain_choices, item_at, branch_at, parts_at}
use Rattle.choice_trees.specs.ItemLaws.{plain_item-Leaf, plain_item-Node}
use Rattle.choice_trees.specs.Leaves.{item_leaves, branch_leaves, parts_leaves}
use Rattle.choice_trees.specs.Depths.{depth, branches_depth, choices_depth}
use Rattle.choice_trees.proofs.Depths.{choice_within, branch_within}
use Rattle.conditional.specs.Entries.{seen, listed}
use Rattle.name_spaces.specs.Spaces.{defined_tag}
use Rattle.cond_name_spaces.specs.Spaced.{plain_name}
use Rattle.cond_name_spaces.specs.Progress.{Logs, turns_if_any, spaces_of_part, spaces_if_any}
use Rattle.cond_name_spaces.proofs.Choosing.{TurnsSoFar, LogsSoFar, turns_start, turns_next, turns_end, logs_start, logs_next, logs_end}
use Rattle.cond_name_spaces.proofs.Parts.{parts_start, parts_next, parts_end, in_definition, in_another, in_node}
use Rattle.cond_name_spaces.proofs.walks.+walk.Goals as goal

-- ---- one part

pub push_part-push_node-requires : goal.push_part-push_node-requires
push_part-push_node-requires g t c =
    let deep : depth (plain_item c.args.item.now) ≡ suc (choices_depth (plain_choices c.deref.result.now)) =
    ap (λ item. depth (plain_item item)) c.in-Node.is ∙ (ap depth (plain_item-Node c.in-Node.kind c.in-Node.parts) ∙
    ap (λ list. suc (choices_depth (plain_choices list))) (sym c.deref.ensures.value)) in
    λ κs lives. (omega (arith, deep, c.decreases), lives)

pub push_part-returns-in_ok-push_token-in-Leaf-clause-logs : goal.push_part-returns-in_ok-push_token-in-Leaf-clause-logs
push_part-returns-in_ok-push_token-in-Leaf-clause-logs g t c = λ n tag admitted one.
    subst (λ item. Logs (value (has n) (condition_of c.args.when.now)) (item_leaves (has n) item) (spaces_of_part c.args.around.declaration tag c.args.around.kind (value (has n) (condition_of c.args.turned.now)) (item_at (has n) item))
    (seen (has n) (listed plain_name c.args.log.now)) (seen (has n) (listed plain_name c.push_token.new.log)))
    (sym (ap plain_item c.in-Leaf.is ∙ plain_item-Leaf c.in-Leaf.number c.in-Leaf.token))
    (c.in_ok-push_token-in-Leaf.ensures (has n) tag one)

pub push_part-returns-in_ok-push_node-in-Node-clause-logs : goal.push_part-returns-in_ok-push_node-in-Node-clause-logs
push_part-returns-in_ok-push_node-in-Node-clause-logs g t c = λ n tag admitted one.
    subst (λ item. Logs (value (has n) (condition_of c.args.when.now)) (item_leaves (has n) item) (spaces_of_part c.args.around.declaration tag c.args.around.kind (value (has n) (condition_of c.args.turned.now)) (item_at (has n) item))
    (seen (has n) (listed plain_name c.args.log.now)) (seen (has n) (listed plain_name c.push_node.new.log)))
    (ap (λ list. inner c.in-Node.kind (plain_choices list)) c.deref.ensures.value ∙ sym (ap plain_item c.in-Node.is ∙ plain_item-Node c.in-Node.kind c.in-Node.parts))
    (c.in_ok-push_node-in-Node.ensures.logs n tag admitted one)

-- ---- alternatives

pub push_choice-push_part-requires : goal.push_choice-push_part-requires
push_choice-push_part-requires g t c =
    let low : depth (plain_item c.loop-alternative-item.result.1) ≤ branches_depth (plain_branches c.deref-alternative-items.result.now) =
    subst (λ b. depth (plain_item b.1) ≤ branches_depth (plain_branches c.deref-alternative-items.result.now)) (sym c.loop-alternative-item.is)
    (branch_within c.deref-alternative-items.result.now c.loop-alternative.alternative-index c.loop-alternative-item.result c.loop-alternative-test.true) in
    let same : branches_depth (plain_branches c.deref-alternative-items.result.now) ≡ branches_depth (plain_branches c.args.choice.now.branches.items) =
    ap (λ list. branches_depth (plain_branches list)) c.deref-alternative-items.ensures.value in
    λ κs lives. (omega (arith, low, same, c.decreases), lives)

pub push_choice-loop-alternative-init : goal.push_choice-loop-alternative-init
push_choice-loop-alternative-init g t c =
    let all = plain_branches c.deref-alternative-items.result.now in
    record {
      kept = refl;
      turns = λ on.
          let turned = value on (condition_of c.args.turned.now) in
          subst (λ b. TurnsSoFar on c.args.around.kind all turned b all (value on (condition_of c.in_ok-behind.behind))) (sym (ap (value on) condition_of-True))
          (subst (λ f. TurnsSoFar on c.args.around.kind all turned true all (value on f)) (sym c.in_ok-behind.ensures) (turns_start on c.args.around.kind all turned));
      so_far = λ n tag admitted one.
          let turned = value (has n) (condition_of c.args.turned.now) in
          let path = value (has n) (condition_of c.args.when.now) in
          let old = seen (has n) (listed plain_name c.args.log.now) in
          subst (λ b. LogsSoFar (has n) c.args.around.kind all c.args.around.declaration tag turned path old b all old) (sym (ap (value (has n)) condition_of-True))
          (logs_start (has n) c.args.around.kind all c.args.around.declaration tag turned path old);
    }

pub push_choice-loop-alternative-preserved : goal.push_choice-loop-alternative-preserved
push_choice-loop-alternative-preserved g t c = record {
  kept = c.in_ok-push_part.ensures.kept ∙ c.loop-alternative.invariant.kept;
  turns = λ on.
      turns_next on c.args.around.kind (plain_branches c.deref-alternative-items.result.now) (value on (condition_of c.args.turned.now)) c.deref-alternative-items.result.now c.loop-alternative.alternative-index c.loop-alternative-item.result
      (value on (condition_of c.loop-alternative.left)) (value on (condition_of c.in_ok-here.here)) (value on (condition_of c.in_ok-left.left)) (value on (condition_of c.loop-alternative.behind)) (value on (condition_of c.in_ok-behind-2.behind))
      c.loop-alternative-test.true c.loop-alternative-item.is (c.in_ok-here.ensures on) (c.in_ok-behind-2.ensures on) (c.in_ok-left.ensures on) (c.loop-alternative.invariant.turns on);
  so_far = λ n tag admitted one.
      logs_next (has n) c.args.around.kind (plain_branches c.deref-alternative-items.result.now) c.args.around.declaration tag (value (has n) (condition_of c.args.turned.now)) (value (has n) (condition_of c.args.when.now))
      (seen (has n) (listed plain_name c.args.log.now)) c.deref-alternative-items.result.now c.loop-alternative.alternative-index c.loop-alternative-item.result
      (value (has n) (condition_of c.loop-alternative.left)) (value (has n) (condition_of c.in_ok-path.path)) (value (has n) (condition_of c.in_ok-left.left))
      (seen (has n) (listed plain_name c.loop-alternative.log)) (seen (has n) (listed plain_name c.push_part.new.log)) c.loop-alternative-test.true c.loop-alternative-item.is
      (c.in_ok-path.ensures (has n) ∙ ap (λ b. value (has n) (condition_of c.args.when.now) && b) (c.in_ok-here.ensures (has n))) (c.in_ok-left.ensures (has n))
      (c.in_ok-push_part.ensures.logs n tag (ap (value (has n)) c.loop-alternative.invariant.kept ∙ admitted) one)
      (c.loop-alternative.invariant.so_far n tag admitted one);
}

pub push_choice-returns-clause-turned : goal.push_choice-returns-clause-turned
push_choice-returns-clause-turned g t c = λ on.
    turns_end on c.args.around.kind (plain_branches c.deref-alternative-items.result.now) (value on (condition_of c.args.turned.now)) c.deref-alternative-items.result.now c.loop-alternative.alternative-index
    (value on (condition_of c.loop-alternative.left)) (value on (condition_of c.loop-alternative.behind)) c.loop-alternative-test.false (c.loop-alternative.invariant.turns on)
    ∙ ap (λ list. value on (condition_of c.args.turned.now) || turns_if_any c.args.around.kind (branch_at on (plain_branches list))) c.deref-alternative-items.ensures.value

pub push_choice-returns-clause-logs : goal.push_choice-returns-clause-logs
push_choice-returns-clause-logs g t c = λ n tag needed admitted one.
    let turned = value (has n) (condition_of c.args.turned.now) in
    let path = value (has n) (condition_of c.args.when.now) in
    let old = seen (has n) (listed plain_name c.args.log.now) in
    subst (λ list. Logs path (branch_leaves (has n) needed (plain_branches list)) (spaces_if_any c.args.around.declaration tag c.args.around.kind turned (branch_at (has n) (plain_branches list)))
    old (seen (has n) (listed plain_name c.loop-alternative.log))) c.deref-alternative-items.ensures.value
    (logs_end (has n) c.args.around.kind (plain_branches c.deref-alternative-items.result.now) c.args.around.declaration tag turned path old
    c.deref-alternative-items.result.now c.loop-alternative.alternative-index needed (value (has n) (condition_of c.loop-alternative.left))
    (seen (has n) (listed plain_name c.loop-alternative.log)) c.loop-alternative-test.false (c.loop-alternative.invariant.so_far n tag admitted one))

-- ---- parts

pub push_parts-push_choice-requires : goal.push_parts-push_choice-requires
push_parts-push_choice-requires g t c =
    let low : branches_depth (plain_branches c.part-item.result.branches.items) ≤ choices_depth (plain_choices c.args.parts.now) =
    subst (λ part. branches_depth (plain_branches part.branches.items) ≤ choices_depth (plain_choices c.args.parts.now)) (sym c.part-item.is)
    (choice_within c.args.parts.now c.loop-part.part-index c.part-item.result c.loop-part-test.true) in
    λ κs lives. (omega (arith, low, c.decreases), lives)

pub push_parts-loop-part-init : goal.push_parts-loop-part-init
push_parts-loop-part-init g t c = record {
  kept = refl;
  so_far = λ n tag admitted one.
      parts_start c.args.around.declaration tag c.args.around.kind (has n) c.args.parts.now (value (has n) (condition_of c.args.when.now)) (seen (has n) (listed plain_name c.args.log.now)) _ (ap (value (has n)) condition_of-False);
}

pub push_parts-loop-part-preserved : goal.push_parts-loop-part-preserved
push_parts-loop-part-preserved g t c = record {
  kept = c.in_ok-turned.ensures.kept ∙ c.loop-part.invariant.kept;
  so_far = λ n tag admitted one.
      parts_next c.args.around.declaration tag c.args.around.kind (has n) c.args.parts.now (value (has n) (condition_of c.args.when.now)) (seen (has n) (listed plain_name c.args.log.now))
      c.loop-part.part-index c.part-item.result (value (has n) (condition_of c.loop-part.turned)) (value (has n) (condition_of c.in_ok-turned.turned)) (seen (has n) (listed plain_name c.loop-part.log)) (seen (has n) (listed plain_name c.push_choice.new.log))
      c.loop-part-test.true c.part-item.is (c.in_ok-turned.ensures.turned (has n))
      (λ needed. c.in_ok-turned.ensures.logs n tag needed (ap (value (has n)) c.loop-part.invariant.kept ∙ admitted) one)
      (c.loop-part.invariant.so_far n tag admitted one);
}

pub push_parts-returns-clause-logs : goal.push_parts-returns-clause-logs
push_parts-returns-clause-logs g t c = λ n tag admitted one.
    parts_end c.args.around.declaration tag c.args.around.kind (has n) c.args.parts.now (value (has n) (condition_of c.args.when.now)) (seen (has n) (listed plain_name c.args.log.now))
    c.loop-part.part-index (value (has n) (condition_of c.loop-part.turned)) (seen (has n) (listed plain_name c.loop-part.log)) c.loop-part-test.false
    (c.loop-part.invariant.so_far n tag admitted one)

-- ---- nodes

pub push_node-returns-in_ok-push_parts-clause-logs : goal.push_node-returns-in_ok-push_parts-clause-logs
push_node-returns-in_ok-push_parts-clause-logs g t c = λ n tag admitted one.
    in_node c.args.declaration c.declaration_in.result c.args.kind tag (defined_tag (parts_at (has n) k.StructDefinition 0 (plain_choices c.args.parts.now))) (parts_at (has n) c.args.kind 0 (plain_choices c.args.parts.now))
    (value (has n) (condition_of c.args.when.now)) (parts_leaves (has n) c.args.kind 0 (plain_choices c.args.parts.now)) (seen (has n) (listed plain_name c.args.log.now)) (seen (has n) (listed plain_name c.push_parts.new.log))
    c.declaration_in.ensures (in_definition (has n) tag c.args.kind (plain_choices c.args.parts.now) (sym c.defines_struct.ensures ∙ c.if-defines_struct.true))
    (c.in_ok-push_parts.ensures.logs n (defined_tag (parts_at (has n) k.StructDefinition 0 (plain_choices c.args.parts.now))) (ap (value (has n)) c.in_ok-own.ensures.kept ∙ admitted) (c.in_ok-own.ensures.seen n admitted))

pub push_node-returns-in_ok-push_parts-2-clause-logs : goal.push_node-returns-in_ok-push_parts-2-clause-logs
push_node-returns-in_ok-push_parts-2-clause-logs g t c = λ n tag admitted one.
    in_node c.args.declaration c.declaration_in.result c.args.kind tag tag (parts_at (has n) c.args.kind 0 (plain_choices c.args.parts.now))
    (value (has n) (condition_of c.args.when.now)) (parts_leaves (has n) c.args.kind 0 (plain_choices c.args.parts.now)) (seen (has n) (listed plain_name c.args.log.now)) (seen (has n) (listed plain_name c.push_parts-else-defines_struct.new.log))
    c.declaration_in.ensures (in_another tag c.args.kind (parts_at (has n) c.args.kind 0 (plain_choices c.args.parts.now)) (sym c.defines_struct.ensures ∙ c.if-defines_struct.false))
    (c.in_ok-push_parts-2.ensures.logs n tag admitted one)
