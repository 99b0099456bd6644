use Rattle.std.proofs.Common.{◌≡◌, ◌+◌, ◌≤◌, List, drop, refl, sym, ap, subst, ◌∙◌, arith}
use Rattle.std.proofs.lemmas.List.{drop_all}
use Rattle.std.proofs.lemmas.Result.{on_ok_weaker}
use Rattle.c_text.specs.Token.{plain_token}
use Rattle.cond_formula.specs.declared.formulas.Formula.{Formula}
use Rattle.cond_formula.specs.Features.{has}
use Rattle.cond_formula.specs.Conditions.{condition_of, value}
use Rattle.c_tree.specs.declared.kinds.Kind.{Kind}
use Rattle.c_tree.specs.declared.kinds.Kind.TheVariants as k
use Rattle.c_tree.specs.Trees.{PlainTree, node, none, more}
use Rattle.conditional.proofs.ListLaws.{item_of}
use Rattle.choice_trees.specs.declared.trees.Item.{Item}
use Rattle.choice_trees.specs.ChoiceTrees.{PlainItem, plain_item, plain_branches, plain_choices, with_part, item_at, branch_at, parts_at}
use Rattle.choice_trees.specs.ItemLaws.{plain_item-Leaf}
use Rattle.choice_trees.specs.Depths.{depth, branches_depth, choices_depth}
use Rattle.choice_trees.proofs.Depths.{choice_within, branch_within}
use Rattle.cond_statements.specs.declared.roles.Role.TheVariants.{LeftOut, Declaration, Scoped, Parts, Jump, Expression}
use Rattle.cond_statements.proofs.KindsOfNodes.{Plays, plays_role}
use Rattle.type_tables.proofs.LocalsAlone.{nothing_changed, locals_again}
use Rattle.cond_member_uses.specs.Noted.{noted_at, Notes, NotesExpression, Where}
use Rattle.cond_member_uses.proofs.Blocks.{block_noted, where_also}
use Rattle.cond_member_uses.proofs.Composing.{token_noted}
use Rattle.cond_member_uses.proofs.Declarations.{unchanged}
use Rattle.cond_member_uses.proofs.NodeUses.{UsesAs, uses_by_role}
use Rattle.cond_member_uses.proofs.Nodes.{absent_noted, jump_noted, expression_noted, partwise_noted, scoped_noted, locals_noted}
use Rattle.cond_member_uses.proofs.Choices.{Tried, tried_begin, tried_next, tried_all, parts_begin, parts_next, parts_end}
use Rattle.cond_member_uses.proofs.statements.+noting.Goals as goal

-- ---- alternatives

pub note_choice-note_item-requires : goal.note_choice-note_item-requires
note_choice-note_item-requires g t c =
    let low : depth (plain_item c.loop-condition-item.result.1) ≤ branches_depth (plain_branches c.deref-condition-items.result.now) =
    subst (λ b. depth (plain_item b.1) ≤ branches_depth (plain_branches c.deref-condition-items.result.now)) (sym c.loop-condition-item.is)
    (branch_within c.deref-condition-items.result.now c.loop-condition.condition-index c.loop-condition-item.result c.loop-condition-test.true) in
    let same : branches_depth (plain_branches c.deref-condition-items.result.now) ≡ branches_depth (plain_branches c.args.choice.now.branches.items) =
    ap (λ list. branches_depth (plain_branches list)) c.deref-condition-items.ensures.value in
    λ κs lives. (omega (arith, low, same, c.decreases), lives)

pub note_choice-loop-condition-init : goal.note_choice-loop-condition-init
note_choice-loop-condition-init g t c = record {
  kept = refl;
  outside = nothing_changed c.args.tables.now;
  so_far = λ n admitted.
      tried_begin c.args.kind (branch_at (has n) (plain_branches c.deref-condition-items.result.now)) (value (has n) (condition_of c.args.when.now)) (noted_at (has n) c.args.tables.now c.args.log.now)
      (value (has n) (condition_of c.in_ok-rest.rest)) (ap (value (has n)) c.in_ok-rest.ensures);
}

pub note_choice-loop-condition-preserved : goal.note_choice-loop-condition-preserved
note_choice-loop-condition-preserved g t c = record {
  kept = c.in_ok-note_item.ensures.kept ∙ c.loop-condition.invariant.kept;
  outside = locals_again c.args.tables.now c.loop-condition.tables c.note_item.new.tables c.loop-condition.invariant.outside c.in_ok-note_item.ensures.outside;
  so_far = λ n admitted.
      let items = c.deref-condition-items.result.now in
      let i = c.loop-condition.condition-index in
      let x = c.loop-condition-item.result in
      let all = branch_at (has n) (plain_branches items) in
      let path = value (has n) (condition_of c.args.when.now) in
      let old = noted_at (has n) c.args.tables.now c.args.log.now in
      let now = noted_at (has n) c.loop-condition.tables c.loop-condition.log in
      tried_next c.args.kind all path old (value (has n) (condition_of c.loop-condition.rest)) (value (has n) (condition_of x.0)) (value (has n) (condition_of c.in_ok-here.here)) (value (has n) (condition_of c.in_ok-rest-2.rest))
      (item_at (has n) (plain_item x.1)) (branch_at (has n) (plain_branches (drop (i + 1) items))) now (noted_at (has n) c.note_item.new.tables c.note_item.new.log)
      (c.in_ok-here.ensures (has n)) (c.in_ok-rest-2.ensures (has n)) (c.in_ok-note_item.ensures.notes n (ap (value (has n)) c.loop-condition.invariant.kept ∙ admitted))
      (subst (λ (list : List (Formula × Item)). Tried c.args.kind all path old (value (has n) (condition_of c.loop-condition.rest)) (branch_at (has n) (plain_branches list)) now)
      (item_of items x i c.loop-condition-test.true c.loop-condition-item.is) (c.loop-condition.invariant.so_far n admitted));
}

pub note_choice-returns-clause-notes : goal.note_choice-returns-clause-notes
note_choice-returns-clause-notes g t c = λ n needed admitted.
    let items = c.deref-condition-items.result.now in
    let all = branch_at (has n) (plain_branches items) in
    let path = value (has n) (condition_of c.args.when.now) in
    let old = noted_at (has n) c.args.tables.now c.args.log.now in
    let now = noted_at (has n) c.loop-condition.tables c.loop-condition.log in
    let rest = value (has n) (condition_of c.loop-condition.rest) in
    subst (λ (list : List (Formula × Item)). Where path (Notes c.args.kind (with_part needed (branch_at (has n) (plain_branches list)) none)) old now) c.deref-condition-items.ensures.value
    (tried_all c.args.kind all path old rest now
    (subst (λ (list : List (Formula × Item)). Tried c.args.kind all path old rest (branch_at (has n) (plain_branches list)) now)
    (drop_all c.loop-condition.condition-index items c.loop-condition-test.false) (c.loop-condition.invariant.so_far n admitted)) needed)

-- ---- parts

pub note_parts-note_choice-requires : goal.note_parts-note_choice-requires
note_parts-note_choice-requires g t c =
    let low : branches_depth (plain_branches c.part-item.result.branches.items) ≤ choices_depth (plain_choices c.args.parts.now) =
    subst (λ part. branches_depth (plain_branches part.branches.items) ≤ choices_depth (plain_choices c.args.parts.now)) (sym c.part-item.is)
    (choice_within c.args.parts.now c.loop-part.part-index c.part-item.result c.loop-part-test.true) in
    λ κs lives. (omega (arith, low, c.decreases), lives)

pub note_parts-loop-part-init : goal.note_parts-loop-part-init
note_parts-loop-part-init g t c = record {
  kept = refl;
  outside = nothing_changed c.args.tables.now;
  so_far = λ n admitted. parts_begin (has n) c.args.kind c.args.parts.now (value (has n) (condition_of c.args.when.now)) (noted_at (has n) c.args.tables.now c.args.log.now);
}

pub note_parts-loop-part-preserved : goal.note_parts-loop-part-preserved
note_parts-loop-part-preserved g t c = record {
  kept = c.in_ok-note_choice.ensures.kept ∙ c.loop-part.invariant.kept;
  outside = locals_again c.args.tables.now c.loop-part.tables c.note_choice.new.tables c.loop-part.invariant.outside c.in_ok-note_choice.ensures.outside;
  so_far = λ n admitted.
      parts_next (has n) c.args.kind c.args.parts.now (value (has n) (condition_of c.args.when.now)) (noted_at (has n) c.args.tables.now c.args.log.now) c.loop-part.part-index c.part-item.result
      (noted_at (has n) c.loop-part.tables c.loop-part.log) (noted_at (has n) c.note_choice.new.tables c.note_choice.new.log) c.loop-part-test.true c.part-item.is
      (λ needed. c.in_ok-note_choice.ensures.notes n needed (ap (value (has n)) c.loop-part.invariant.kept ∙ admitted)) (c.loop-part.invariant.so_far n admitted);
}

pub note_parts-returns-clause-notes : goal.note_parts-returns-clause-notes
note_parts-returns-clause-notes g t c = λ n admitted.
    parts_end (has n) c.args.kind c.args.parts.now (value (has n) (condition_of c.args.when.now)) (noted_at (has n) c.args.tables.now c.args.log.now) c.loop-part.part-index
    (noted_at (has n) c.loop-part.tables c.loop-part.log) c.loop-part-test.false (c.loop-part.invariant.so_far n admitted)

-- ---- one part

pub note_item-returns-in-Leaf-clause-notes : goal.note_item-returns-in-Leaf-clause-notes
note_item-returns-in-Leaf-clause-notes g t c = λ n admitted.
    let a = noted_at (has n) c.args.tables.now c.args.log.now in
    unchanged (value (has n) (condition_of c.args.when.now)) (Notes c.args.around (more (item_at (has n) (plain_item c.args.item.now)) none)) a
    (subst (λ (item : PlainItem). Notes c.args.around (more (item_at (has n) item) none) a a) (sym (ap plain_item c.in-Leaf.is ∙ plain_item-Leaf c.in-Leaf.field-0 c.in-Leaf.field-1))
    (token_noted c.args.around (plain_token c.in-Leaf.field-1) a))

-- ---- nodes

pub note_node-returns-in-LeftOut-clause-notes : goal.note_node-returns-in-LeftOut-clause-notes
note_node-returns-in-LeftOut-clause-notes g t c = λ n admitted at.
    let plays : Plays c.args.kind LeftOut = subst (Plays c.args.kind) (sym c.role_of.ensures ∙ c.in-LeftOut.is) (plays_role c.args.kind) in
    let a = noted_at (has n) c.args.tables.now c.args.log.now in
    let parts = parts_at (has n) c.args.kind 0 (plain_choices c.args.parts.now) in
    unchanged (value (has n) (condition_of c.args.when.now)) (Notes c.args.around (more (node c.args.kind parts) none)) a
    (subst (λ (m : Kind). Notes c.args.around (more (node m parts) none) a a) (sym plays) (absent_noted c.args.around parts a))

pub note_node-returns-in-Jump-clause-notes : goal.note_node-returns-in-Jump-clause-notes
note_node-returns-in-Jump-clause-notes g t c = λ n admitted at.
    let plays : Plays c.args.kind Jump = subst (Plays c.args.kind) (sym c.role_of.ensures ∙ c.in-Jump.is) (plays_role c.args.kind) in
    let a = noted_at (has n) c.args.tables.now c.args.log.now in
    let parts = parts_at (has n) c.args.kind 0 (plain_choices c.args.parts.now) in
    unchanged (value (has n) (condition_of c.args.when.now)) (Notes c.args.around (more (node c.args.kind parts) none)) a
    (subst (λ (m : Kind). Notes c.args.around (more (node m parts) none) a a) (sym plays) (jump_noted c.args.around parts a))

pub note_node-returns-in-Declaration-clause-notes : goal.note_node-returns-in-Declaration-clause-notes
note_node-returns-in-Declaration-clause-notes g t c =
    let plays : Plays c.args.kind Declaration = subst (Plays c.args.kind) (sym c.role_of.ensures ∙ c.in-Declaration.is) (plays_role c.args.kind) in
    on_ok_weaker c.note_locals.result (λ notes n admitted at.
    let a = noted_at (has n) c.args.tables.now c.args.log.now in
    let b = noted_at (has n) c.note_locals.new.tables c.note_locals.new.log in
    subst (λ (m : Kind). Where (value (has n) (condition_of c.args.when.now)) (Notes c.args.around (more (node m (parts_at (has n) m 0 (plain_choices c.args.parts.now))) none)) a b) (sym plays)
    (where_also (value (has n) (condition_of c.args.when.now)) _ _ a b (locals_noted c.args.around (parts_at (has n) k.LocalDeclaration 0 (plain_choices c.args.parts.now)) a b) (notes n admitted))) c.note_locals.ensures.notes

pub note_node-returns-in-Scoped-clause-notes : goal.note_node-returns-in-Scoped-clause-notes
note_node-returns-in-Scoped-clause-notes g t c =
    let plays : Plays c.args.kind Scoped = subst (Plays c.args.kind) (sym c.role_of.ensures ∙ c.in-Scoped.is) (plays_role c.args.kind) in
    let uses : UsesAs c.args.kind Scoped = subst (UsesAs c.args.kind) (sym c.role_of.ensures ∙ c.in-Scoped.is) (uses_by_role c.args.kind) in
    on_ok_weaker c.note_scoped.result (λ notes n admitted at.
    let a = noted_at (has n) c.args.tables.now c.args.log.now in
    let b = noted_at (has n) c.note_scoped.new.tables c.note_scoped.new.log in
    where_also (value (has n) (condition_of c.args.when.now)) _ _ a b (scoped_noted c.args.around (parts_at (has n) c.args.kind 0 (plain_choices c.args.parts.now)) c.args.kind plays uses a b) (notes n admitted)) c.note_scoped.ensures.notes

pub note_node-returns-in-Parts-clause-notes : goal.note_node-returns-in-Parts-clause-notes
note_node-returns-in-Parts-clause-notes g t c =
    let plays : Plays c.args.kind Parts = subst (Plays c.args.kind) (sym c.role_of.ensures ∙ c.in-Parts.is) (plays_role c.args.kind) in
    let uses : UsesAs c.args.kind Parts = subst (UsesAs c.args.kind) (sym c.role_of.ensures ∙ c.in-Parts.is) (uses_by_role c.args.kind) in
    on_ok_weaker c.note_parts.result (λ notes n admitted at.
    let a = noted_at (has n) c.args.tables.now c.args.log.now in
    let b = noted_at (has n) c.note_parts.new.tables c.note_parts.new.log in
    where_also (value (has n) (condition_of c.args.when.now)) _ _ a b (partwise_noted c.args.around (parts_at (has n) c.args.kind 0 (plain_choices c.args.parts.now)) c.args.kind plays uses a b) (notes n admitted)) c.note_parts.ensures.notes

pub note_node-returns-in-Expression-clause-notes : goal.note_node-returns-in-Expression-clause-notes
note_node-returns-in-Expression-clause-notes g t c =
    let plays : Plays c.args.kind Expression = subst (Plays c.args.kind) (sym c.role_of.ensures ∙ c.in-Expression.is) (plays_role c.args.kind) in
    let uses : UsesAs c.args.kind Expression = subst (UsesAs c.args.kind) (sym c.role_of.ensures ∙ c.in-Expression.is) (uses_by_role c.args.kind) in
    on_ok_weaker c.note_expression.result (λ notes n admitted at.
    let a = noted_at (has n) c.args.tables.now c.args.log.now in
    let b = noted_at (has n) c.args.tables.now c.note_expression.new.log in
    let parts = parts_at (has n) c.args.kind 0 (plain_choices c.args.parts.now) in
    where_also (value (has n) (condition_of c.args.when.now)) _ _ a b (expression_noted c.args.around parts c.args.kind plays uses a b)
    (subst (λ (tree : PlainTree). Where (value (has n) (condition_of c.args.when.now)) (NotesExpression tree) a b) at (notes n admitted))) c.note_expression.ensures.notes

-- ---- blocks

pub note_scoped-returns-clause-notes : goal.note_scoped-returns-clause-notes
note_scoped-returns-clause-notes g t c = λ n admitted.
    block_noted (has n) c.args.kind (parts_at (has n) c.args.kind 0 (plain_choices c.args.parts.now)) (value (has n) (condition_of c.args.when.now)) c.args.tables.now c.enter.new.self c.note_parts.new.tables c.leave.new.self
    c.args.log.now c.note_parts.new.log c.in_ok-outside.ensures.same (c.in_ok-outside.ensures.seen (has n)) c.in_ok-note_parts.ensures.outside
    (c.leave.ensures c.args.tables.now c.in_ok-outside.ensures.outside (c.in_ok-note_parts.ensures.outside.outside c.args.tables.now c.in_ok-outside.ensures.kept))
    (c.in_ok-note_parts.ensures.notes n admitted)
