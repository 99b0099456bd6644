use Rattle.std.proofs.Common.{◌≡◌, suc, ◌≤◌, false, ◌&&◌, reverse, arith, refl, sym, ap, ◌∙◌, subst}
use Rattle.cond_formula.specs.declared.formulas.Formula.{False}
use Rattle.cond_formula.specs.Features.{has}
use Rattle.cond_formula.specs.Conditions.{condition_of, conditions_of, value, all_true}
use Rattle.cond_formula.specs.ConditionLaws.{condition_of-False}
use Rattle.choice_trees.specs.ChoiceTrees.{inner, plain_item, plain_branches, plain_choices, item_at, branch_at, parts_at}
use Rattle.choice_trees.specs.ItemLaws.{plain_item-Leaf, plain_item-Node}
use Rattle.choice_trees.specs.Leaves.{item_leaves, branch_leaves, parts_leaves}
use Rattle.choice_trees.specs.Depths.{depth, branches_depth, choices_depth}
use Rattle.choice_trees.proofs.Depths.{branch_within, choice_within}
use Rattle.scope_readings.specs.Walks.{declaration_in, ends_scope, walk_node, walk_parts}
use Rattle.cond_bindings.specs.Names.{seen, Steps}
use Rattle.cond_bindings.specs.PlainNames.{plain_names}
use Rattle.cond_bindings.specs.Scopes.{plain_scope}
use Rattle.cond_scopes.specs.Progress.{showing, hidden_at, on_it, part_read, perhaps_read, numbers, MovesOn}
use Rattle.cond_scopes.proofs.Choosing.{one_read, one_passed, list_read}
use Rattle.cond_scopes.proofs.Growing.{stays, grows_on}
use Rattle.cond_scopes.proofs.Leaving.{leaves}
use Rattle.cond_scopes.proofs.NameReading.{step_read}
use Rattle.cond_scopes.proofs.PartReading.{starts, next, finished}
use Rattle.cond_scopes.proofs.parts.+read.Goals as goal
use Rattle.cond_scopes.proofs.parts.+read.Goals.{read_choice-in-Some+in_ok-read_item+in_ok-exclude, read_choice-in_default}

pub read_choice-read_item-requires : goal.read_choice-read_item-requires
read_choice-read_item-requires g t c κs within =
    let deep : depth (plain_item c.loop-when-item.result.1) ≤ branches_depth (plain_branches c.args.choice.now.branches.items) =
    subst (λ list. depth (plain_item c.loop-when-item.result.1) ≤ branches_depth (plain_branches list)) c.deref-when-items.ensures.value
    (subst (λ alternative. depth (plain_item alternative.1) ≤ branches_depth (plain_branches c.deref-when-items.result.now)) (sym c.loop-when-item.is)
    (branch_within c.deref-when-items.result.now c.loop-when.when-index c.loop-when-item.result c.loop-when-test.true)) in
    (omega (arith, deep, c.decreases), within)

pub read_choice-loop-when-preserved : goal.read_choice-loop-when-preserved
read_choice-loop-when-preserved g t c =
    elim c.match-branch-3.branch [
      | read_choice-in-Some+in_ok-read_item+in_ok-exclude w ↦ record {
        kept = rw w.oracle-is (w.in_ok-read_item.ensures.kept ∙ (c.in_ok-here.ensures.kept ∙ c.loop-when.invariant.kept));
        so_far = λ c' needed admitted. rw (w.names-is, w.progress-is, w.left-is)
            (one_read (has c') c.args.around.declaration c.args.around.kind needed (plain_branches c.deref-when-items.result.now) (all_true (has c') (conditions_of c.args.path.now))
            (plain_names c.args.names.now) c.args.progress.now c.deref-when-items.result.now c.loop-when.when-index c.loop-when-item.result (plain_names c.loop-when.names) c.loop-when.progress
            (all_true (has c') (conditions_of c.loop-when.left.items)) (all_true (has c') (conditions_of w.deref-in-Some.result.now)) (all_true (has c') (conditions_of w.exclude.new.path.items))
            (plain_names w.read_item.new.names) w.read_item.new.progress c.loop-when-test.true c.loop-when-item.is
            (ap (λ list. all_true (has c') (conditions_of list)) w.deref-in-Some.ensures.value ∙ (ap (on_it (has c')) (sym w.in-Some.is) ∙
            (c.in_ok-here.ensures.chosen c' (ap (value (has c')) c.loop-when.invariant.kept ∙ admitted) ∙
            ap (λ list. all_true (has c') (conditions_of list) && value (has c') (condition_of c.loop-when-item.result.0)) c.deref.ensures.value)))
            (w.in_ok-exclude.ensures (has c'))
            (c.loop-when.invariant.so_far c' needed admitted)
            (λ behind. w.in_ok-read_item.ensures.reads c' behind (ap (value (has c')) (c.in_ok-here.ensures.kept ∙ c.loop-when.invariant.kept) ∙ admitted)));
        grows = rw w.names-is (grows_on (plain_names c.args.names.now) (plain_names c.loop-when.names) (plain_names w.read_item.new.names) c.loop-when.invariant.grows w.in_ok-read_item.ensures.grows);
        tells = λ c' admitted told. rw w.names-is (w.in_ok-read_item.ensures.tells c' (ap (value (has c')) (c.in_ok-here.ensures.kept ∙ c.loop-when.invariant.kept) ∙ admitted) (c.loop-when.invariant.tells c' admitted told));
      }
      | read_choice-in_default w ↦ record {
        kept = rw w.oracle-is (c.in_ok-here.ensures.kept ∙ c.loop-when.invariant.kept);
        so_far = λ c' needed admitted. rw (w.names-is, w.progress-is, w.left-is)
            (one_passed (has c') c.args.around.declaration c.args.around.kind needed (plain_branches c.deref-when-items.result.now) (all_true (has c') (conditions_of c.args.path.now))
            (plain_names c.args.names.now) c.args.progress.now c.deref-when-items.result.now c.loop-when.when-index c.loop-when-item.result (plain_names c.loop-when.names) c.loop-when.progress
            (all_true (has c') (conditions_of c.loop-when.left.items)) c.loop-when-test.true c.loop-when-item.is
            (ap (on_it (has c')) (sym w.in_default.is) ∙
            (c.in_ok-here.ensures.chosen c' (ap (value (has c')) c.loop-when.invariant.kept ∙ admitted) ∙
            ap (λ list. all_true (has c') (conditions_of list) && value (has c') (condition_of c.loop-when-item.result.0)) c.deref.ensures.value))
            (c.loop-when.invariant.so_far c' needed admitted));
        grows = rw w.names-is (c.loop-when.invariant.grows);
        tells = λ c' admitted told. rw w.names-is (c.loop-when.invariant.tells c' admitted told);
      }
    ]

pub read_choice-returns-clause-reads : goal.read_choice-returns-clause-reads
read_choice-returns-clause-reads g t c = λ c' behind needed admitted.
    subst (λ list. MovesOn (has c') (all_true (has c') (conditions_of c.args.path.now)) (numbers (branch_leaves (has c') needed (plain_branches list) behind))
    (perhaps_read c.args.around.declaration c.args.around.kind needed (branch_at (has c') (plain_branches list))) (numbers behind)
    (plain_names c.args.names.now) c.args.progress.now (plain_names c.loop-when.names) c.loop-when.progress) c.deref-when-items.ensures.value
    (list_read (has c') c.args.around.declaration c.args.around.kind needed (plain_branches c.deref-when-items.result.now) (all_true (has c') (conditions_of c.args.path.now))
    (plain_names c.args.names.now) c.args.progress.now c.deref-when-items.result.now c.loop-when.when-index (all_true (has c') (conditions_of c.loop-when.left.items))
    (plain_names c.loop-when.names) c.loop-when.progress c.loop-when-test.false (c.loop-when.invariant.so_far c' needed admitted) behind)

pub read_item-read_node-requires : goal.read_item-read_node-requires
read_item-read_node-requires g t c κs within =
    let deep : depth (plain_item c.args.item.now) ≡ suc (choices_depth (plain_choices c.deref.result.now)) =
    ap (λ item. depth (plain_item item)) c.in-Node.is ∙ (ap depth (plain_item-Node c.in-Node.kind c.in-Node.parts) ∙
    ap (λ list. suc (choices_depth (plain_choices list))) (sym c.deref.ensures.value)) in
    (omega (arith, deep, c.decreases), within)

pub read_item-returns-in_ok-read_token-in-Leaf-clause-reads :
    goal.read_item-returns-in_ok-read_token-in-Leaf-clause-reads
read_item-returns-in_ok-read_token-in-Leaf-clause-reads g t c = λ c' behind admitted.
    subst (λ item. MovesOn (has c') (all_true (has c') (conditions_of c.args.path.now)) (numbers (item_leaves (has c') item behind))
    (part_read c.args.around.declaration c.args.around.kind (item_at (has c') item)) (numbers behind)
    (plain_names c.args.names.now) c.args.progress.now (plain_names c.read_token.new.names) c.read_token.new.progress)
    (sym (ap plain_item c.in-Leaf.is ∙ plain_item-Leaf c.in-Leaf.number c.in-Leaf.token))
    (c.in_ok-read_token-in-Leaf.ensures.reads c' behind admitted)

pub read_item-returns-in_ok-read_node-in-Node-clause-reads :
    goal.read_item-returns-in_ok-read_node-in-Node-clause-reads
read_item-returns-in_ok-read_node-in-Node-clause-reads g t c = λ c' behind admitted.
    subst (λ item. MovesOn (has c') (all_true (has c') (conditions_of c.args.path.now)) (numbers (item_leaves (has c') item behind))
    (part_read c.args.around.declaration c.args.around.kind (item_at (has c') item)) (numbers behind)
    (plain_names c.args.names.now) c.args.progress.now (plain_names c.read_node.new.names) c.args.progress.now)
    (ap (λ list. inner c.in-Node.kind (plain_choices list)) c.deref.ensures.value ∙ sym (ap plain_item c.in-Node.is ∙ plain_item-Node c.in-Node.kind c.in-Node.parts))
    (step_read (has c') (numbers behind) (plain_names c.args.names.now) (plain_names c.read_node.new.names) (all_true (has c') (conditions_of c.args.path.now))
    (numbers (parts_leaves (has c') c.in-Node.kind 0 (plain_choices c.deref.result.now) behind))
    (walk_node c.args.around.declaration c.in-Node.kind (parts_at (has c') c.in-Node.kind 0 (plain_choices c.deref.result.now))) c.args.progress.now
    (c.in_ok-read_node-in-Node.ensures.reads c' behind admitted))

pub read_node-read_parts-requires : goal.read_node-read_parts-requires
read_node-read_parts-requires g t c κs within = (omega (arith, c.decreases), within)

pub read_node-returns-then-ends_scope-clause-reads :
    goal.read_node-returns-then-ends_scope-clause-reads
read_node-returns-then-ends_scope-clause-reads g t c = λ c' behind admitted.
    leaves (has c') (numbers (parts_leaves (has c') c.args.kind 0 (plain_choices c.args.parts.now) behind)) (numbers behind)
    (walk_parts (declaration_in c.args.declaration c.args.kind) c.args.kind false (parts_at (has c') c.args.kind 0 (plain_choices c.args.parts.now)))
    (plain_names c.args.names.now) (plain_names c.read_parts.new.names) (all_true (has c') (conditions_of c.args.path.now)) (ends_scope c.args.declaration c.args.kind) (plain_names c.leave.new.self)
    (sym c.ends_scope.ensures ∙ c.if-ends_scope.true)
    (c.leave.ensures c.in_ok-read_parts.ensures.grows.more (plain_names c.args.names.now).blocks (sym c.open_names-open.ensures) c.in_ok-read_parts.ensures.grows.blocks_are)
    (subst (λ d. Steps (has c') (all_true (has c') (conditions_of c.args.path.now)) (numbers (parts_leaves (has c') c.args.kind 0 (plain_choices c.args.parts.now) behind))
    (walk_parts d c.args.kind false (parts_at (has c') c.args.kind 0 (plain_choices c.args.parts.now))) (numbers behind) (plain_names c.args.names.now) (plain_names c.read_parts.new.names))
    c.declaration_in.ensures (c.in_ok-read_parts.ensures.reads c' behind admitted))

pub read_parts-loop-part-init : goal.read_parts-loop-part-init
read_parts-loop-part-init g t c = record {
  kept = refl;
  so_far = λ c' admitted.
      starts (has c') c.args.around.declaration c.args.around.kind c.args.parts.now (all_true (has c') (conditions_of c.args.path.now)) (plain_names c.args.names.now)
      (record { turned = False; pending = c.new.result }) (ap (value (has c')) condition_of-False) c.new.ensures.items;
  grows = stays (plain_names c.args.names.now) (plain_names c.args.names.now) refl;
  tells = λ c' admitted told. told;
}

pub read_parts-read_choice-requires : goal.read_parts-read_choice-requires
read_parts-read_choice-requires g t c κs within =
    let deep : branches_depth (plain_branches c.part-item.result.branches.items) ≤ choices_depth (plain_choices c.args.parts.now) =
    subst (λ part. branches_depth (plain_branches part.branches.items) ≤ choices_depth (plain_choices c.args.parts.now)) (sym c.part-item.is)
    (choice_within c.args.parts.now c.loop-part.part-index c.part-item.result c.loop-part-test.true) in
    (omega (arith, deep, c.decreases), within)

pub read_parts-loop-part-preserved : goal.read_parts-loop-part-preserved
read_parts-loop-part-preserved g t c = record {
  kept = c.in_ok-read_choice.ensures.kept ∙ c.loop-part.invariant.kept;
  so_far = λ c' admitted.
      next (has c') c.args.around.declaration c.args.around.kind c.args.parts.now (all_true (has c') (conditions_of c.args.path.now)) (plain_names c.args.names.now) c.loop-part.part-index c.part-item.result
      (plain_names c.loop-part.names) c.loop-part.progress (plain_names c.read_choice.new.names) c.read_choice.new.progress c.loop-part-test.true c.part-item.is
      (λ behind needed. c.in_ok-read_choice.ensures.reads c' behind needed (ap (value (has c')) c.loop-part.invariant.kept ∙ admitted)) (c.loop-part.invariant.so_far c' admitted);
  grows = grows_on (plain_names c.args.names.now) (plain_names c.loop-part.names) (plain_names c.read_choice.new.names) c.loop-part.invariant.grows c.in_ok-read_choice.ensures.grows;
  tells = λ c' admitted told. c.in_ok-read_choice.ensures.tells c' (ap (value (has c')) c.loop-part.invariant.kept ∙ admitted) (c.loop-part.invariant.tells c' admitted told);
}

pub read_parts-returns-clause-reads : goal.read_parts-returns-clause-reads
read_parts-returns-clause-reads g t c = λ c' behind admitted.
    finished (has c') c.args.around.declaration c.args.around.kind c.args.parts.now (all_true (has c') (conditions_of c.args.path.now)) (plain_names c.args.names.now) c.loop-part.part-index
    (plain_names c.loop-part.names) c.loop-part.progress (plain_names c.show_all.new.names) c.loop-part-test.false
    (λ coming.
    subst (λ scope. seen (has c') coming (plain_names c.show_all.new.names) ≡ showing scope (hidden_at (has c') (reverse c.loop-part.progress.pending.items)) (seen (has c') coming (plain_names c.loop-part.names)))
    c.scope_of-scope.ensures
    (subst (λ list. seen (has c') coming (plain_names c.show_all.new.names) ≡ showing (plain_scope c.scope_of-scope.result) (hidden_at (has c') (reverse list)) (seen (has c') coming (plain_names c.loop-part.names)))
    c.deref.ensures.value (c.in_ok-show_all.ensures.seen (has c') coming)))
    (c.loop-part.invariant.so_far c' admitted) behind

pub read_parts-returns-clause-grows : goal.read_parts-returns-clause-grows
read_parts-returns-clause-grows g t c =
    grows_on (plain_names c.args.names.now) (plain_names c.loop-part.names) (plain_names c.show_all.new.names) c.loop-part.invariant.grows c.in_ok-show_all.ensures.grows
