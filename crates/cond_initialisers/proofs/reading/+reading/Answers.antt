use Rattle.std.proofs.Common.{◌≡◌, ◌≤◌, false, [], ◌∷◌, ◌++◌, refl, sym, ap, ap₂, ◌∙◌, subst, arith, map}
use Rattle.std.proofs.lemmas.List.{map-append}
use Rattle.std.proofs.lemmas.Result.{IfOk-weaker}
use Rattle.cond_formula.specs.declared.formulas.Formula.{True}
use Rattle.cond_formula.specs.Features.{has}
use Rattle.cond_formula.specs.Conditions.{condition_of, value}
use Rattle.cond_formula.specs.ConditionLaws.{condition_of-True}
use Rattle.c_tree.specs.declared.kinds.Kind.TheVariants as k
use Rattle.c_tree.specs.Trees.{none}
use Rattle.c_types.specs.Types.{plain_type}
use Rattle.conditional.specs.Entries.{under}
use Rattle.conditional.proofs.ListLaws.{seen_push}
use Rattle.choice_trees.specs.ItemLaws.{plain_item-Node}
use Rattle.cond_initialisers.specs.declared.shapes.Shape.TheVariants.{Expression}
use Rattle.choice_trees.specs.ChoiceTrees.{inner, plain_item, plain_branches, plain_choices, with_part, item_at, branch_at, parts_at}
use Rattle.choice_trees.specs.Depths.{depth, branches_depth, choices_depth}
use Rattle.choice_trees.proofs.Depths.{choice_within, branch_within}
use Rattle.type_tables.specs.Seen.{seen_tables}
use Rattle.cond_initialisers.specs.Refusals.{members_in, alone, as_text, refuses, entries_in, some_refused}
use Rattle.cond_initialisers.specs.Rows.{plain_types, asked_for, asked_each, row, rows, numbers, some_row, rows_in_pairs}
use Rattle.cond_initialisers.proofs.Entries.{HasShape, has_shape, same_places, no_entry, an_entry, nothing_under, entries_from, next_part, all_parts, part_start, part_step, part_end, next_type, all_types}
use Rattle.cond_initialisers.proofs.Numbered.{some_asked, pairs_numbered}
use Rattle.cond_initialisers.proofs.reading.+reading.Goals as goal

-- ---- parts

pub entries_for-loop-part-init : goal.entries_for-loop-part-init
entries_for-loop-part-init g t c = record {
  kept = refl;
  so_far = λ n right admitted.
      ap (λ l. rows (has n) l ++ entries_from (g.K.Expressions.asked c.args.known.now n) (members_in (seen_tables (has n) c.args.tables.now)) (plain_types c.args.types.now) (has n) c.args.parts.now) c.new-all.ensures.items;
}

pub entries_for-push_part-requires : goal.entries_for-push_part-requires
entries_for-push_part-requires g t c =
    let low : branches_depth (plain_branches c.part-item.result.branches.items) ≤ choices_depth (plain_choices c.args.parts.now) =
    subst (λ part. branches_depth (plain_branches part.branches.items) ≤ choices_depth (plain_choices c.args.parts.now)) (sym c.part-item.is)
    (choice_within c.args.parts.now c.loop-part.part-index c.part-item.result c.loop-part-test.true) in
    λ κs lives. (omega (arith, low, c.decreases), lives)

pub entries_for-loop-part-preserved : goal.entries_for-loop-part-preserved
entries_for-loop-part-preserved g t c = record {
  kept = c.in_ok-push_part.ensures.kept ∙ c.loop-part.invariant.kept;
  so_far = λ n right admitted.
      next_part (g.K.Expressions.asked c.args.known.now n) (members_in (seen_tables (has n) c.args.tables.now)) (plain_types c.args.types.now) (has n) c.args.parts.now c.part-item.result c.loop-part.part-index
      (rows (has n) c.loop-part.all.items) (rows (has n) c.push_part.new.all.items) c.loop-part-test.true c.part-item.is
      (c.in_ok-push_part.ensures.pushes n right (ap (value (has n)) c.loop-part.invariant.kept ∙ admitted)) (c.loop-part.invariant.so_far n right admitted);
}

pub entries_for-returns-clause-same : goal.entries_for-returns-clause-same
entries_for-returns-clause-same g t c = λ n right admitted.
    all_parts (g.K.Expressions.asked c.args.known.now n) (members_in (seen_tables (has n) c.args.tables.now)) (plain_types c.args.types.now) (has n) c.args.parts.now c.loop-part.part-index (rows (has n) c.loop-part.all.items) c.loop-part-test.false
    (c.loop-part.invariant.so_far n right admitted)

-- ---- alternatives

pub push_part-loop-when-init : goal.push_part-loop-when-init
push_part-loop-when-init g t c = record {
  kept = refl;
  so_far = λ n right admitted.
      part_start (g.K.Expressions.asked c.args.known.now n) (members_in (seen_tables (has n) c.args.tables.now)) (plain_types c.args.types.now) (has n) c.deref-when-items.result.now (value (has n) (condition_of True)) (rows (has n) c.args.all.now.items)
      (ap (value (has n)) condition_of-True);
}

pub push_part-push_item-requires : goal.push_part-push_item-requires
push_part-push_item-requires g t c =
    let low : depth (plain_item c.loop-when-item.result.1) ≤ branches_depth (plain_branches c.deref-when-items.result.now) =
    subst (λ b. depth (plain_item b.1) ≤ branches_depth (plain_branches c.deref-when-items.result.now)) (sym c.loop-when-item.is)
    (branch_within c.deref-when-items.result.now c.loop-when.when-index c.loop-when-item.result c.loop-when-test.true) in
    let same : branches_depth (plain_branches c.deref-when-items.result.now) ≡ branches_depth (plain_branches c.args.part.now.branches.items) =
    ap (λ list. branches_depth (plain_branches list)) c.deref-when-items.ensures.value in
    λ κs lives. (omega (arith, low, same, c.decreases), lives)

pub push_part-loop-when-preserved : goal.push_part-loop-when-preserved
push_part-loop-when-preserved g t c = record {
  kept = c.in_ok-push_item.ensures.kept ∙ c.loop-when.invariant.kept;
  so_far = λ n right admitted.
      part_step (g.K.Expressions.asked c.args.known.now n) (members_in (seen_tables (has n) c.args.tables.now)) (plain_types c.args.types.now) (has n) c.deref-when-items.result.now c.loop-when-item.result c.loop-when.when-index
      (value (has n) (condition_of c.loop-when.left)) (value (has n) (condition_of c.in_ok-here.here)) (value (has n) (condition_of c.in_ok-left.left))
      (rows (has n) c.args.all.now.items) (rows (has n) c.loop-when.all.items) (rows (has n) c.push_item.new.all.items) c.loop-when-test.true c.loop-when-item.is
      (c.in_ok-here.ensures (has n))
      (c.in_ok-left.ensures (has n)) (c.in_ok-push_item.ensures.pushes n right (ap (value (has n)) c.loop-when.invariant.kept ∙ admitted)) (c.loop-when.invariant.so_far n right admitted);
}

pub push_part-returns-clause-pushes : goal.push_part-returns-clause-pushes
push_part-returns-clause-pushes g t c = λ n right admitted.
    subst (λ list. rows (has n) c.loop-when.all.items ≡ rows (has n) c.args.all.now.items
    ++ asked_each (plain_types c.args.types.now) (entries_in (g.K.Expressions.asked c.args.known.now n) (members_in (seen_tables (has n) c.args.tables.now)) (with_part false (branch_at (has n) (plain_branches list)) none))) c.deref-when-items.ensures.value
    (part_end (g.K.Expressions.asked c.args.known.now n) (members_in (seen_tables (has n) c.args.tables.now)) (plain_types c.args.types.now) (has n) c.deref-when-items.result.now c.loop-when.when-index (value (has n) (condition_of c.loop-when.left))
    (rows (has n) c.args.all.now.items) (rows (has n) c.loop-when.all.items) c.loop-when-test.false (c.loop-when.invariant.so_far n right admitted))

-- ---- types

pub row_of-loop-ty-init : goal.row_of-loop-ty-init
row_of-loop-ty-init g t c = record {
  kept = refl;
  so_far = λ n right admitted.
      ap (λ l. map (λ f. value (has n) (condition_of f)) l ++ asked_for (plain_types c.args.types.now) (refuses (g.K.Expressions.asked c.args.known.now n) (members_in (seen_tables (has n) c.args.tables.now)) (item_at (has n) (plain_item c.args.item.now)))) c.new-refused.ensures.items;
}

pub row_of-loop-ty-preserved : goal.row_of-loop-ty-preserved
row_of-loop-ty-preserved g t c = record {
  kept = c.in_ok-here.ensures.kept ∙ c.loop-ty.invariant.kept;
  so_far = λ n right admitted.
      next_type (refuses (g.K.Expressions.asked c.args.known.now n) (members_in (seen_tables (has n) c.args.tables.now)) (item_at (has n) (plain_item c.args.item.now))) c.args.types.now c.ty-item.result c.loop-ty.ty-index
      (map (λ f. value (has n) (condition_of f)) c.loop-ty.refused.items) (map (λ f. value (has n) (condition_of f)) c.push.new.self.items) (value (has n) (condition_of c.in_ok-here.here))
      c.loop-ty-test.true c.ty-item.is (c.in_ok-here.ensures.same n right (ap (value (has n)) c.loop-ty.invariant.kept ∙ admitted))
      (ap (map (λ f. value (has n) (condition_of f))) c.in_ok-push.ensures.items ∙ map-append (λ f. value (has n) (condition_of f)) c.loop-ty.refused.items (c.in_ok-here.here ∷ []))
      (c.loop-ty.invariant.so_far n right admitted);
}

pub row_of-returns-clause-same : goal.row_of-returns-clause-same
row_of-returns-clause-same g t c = λ n right admitted.
    all_types (refuses (g.K.Expressions.asked c.args.known.now n) (members_in (seen_tables (has n) c.args.tables.now)) (item_at (has n) (plain_item c.args.item.now))) c.args.types.now c.loop-ty.ty-index (map (λ f. value (has n) (condition_of f)) c.loop-ty.refused.items)
    c.loop-ty-test.false (c.loop-ty.invariant.so_far n right admitted)

pub where_item_refused-returns-in-Braces-clause-same : goal.where_item_refused-returns-in-Braces-clause-same
where_item_refused-returns-in-Braces-clause-same g t c =
    let told : c.in-Node.kind ≡ k.Braces = subst (HasShape c.in-Node.kind) (sym c.shape_of.ensures ∙ c.in-Braces.is) (has_shape c.in-Node.kind) in
    let e : plain_item c.args.item.now ≡ inner k.Braces (plain_choices c.deref.result.now) =
    ap plain_item c.in-Node.is ∙ (plain_item-Node c.in-Node.kind c.in-Node.parts ∙ ap₂ (λ kind parts. inner kind (plain_choices parts)) told (sym c.deref.ensures.value)) in
    IfOk-weaker c.where_braces_refused.result _ _ (λ f holds n right admitted.
    subst (λ p. value (has n) (condition_of f) ≡ refuses (g.K.Expressions.asked c.args.known.now n) (members_in (seen_tables (has n) c.args.tables.now)) (item_at (has n) p) (plain_type c.args.ty.now)) (sym e) (holds n right admitted)) c.where_braces_refused.ensures.same

pub where_item_refused-returns-in-List-clause-same : goal.where_item_refused-returns-in-List-clause-same
where_item_refused-returns-in-List-clause-same g t c =
    let told : c.in-Node.kind ≡ k.Initialisers = subst (HasShape c.in-Node.kind) (sym c.shape_of.ensures ∙ c.in-List.is) (has_shape c.in-Node.kind) in
    let e : plain_item c.args.item.now ≡ inner k.Initialisers (plain_choices c.deref-in-List.result.now) =
    ap plain_item c.in-Node.is ∙ (plain_item-Node c.in-Node.kind c.in-Node.parts ∙ ap₂ (λ kind parts. inner kind (plain_choices parts)) told (sym c.deref-in-List.ensures.value)) in
    IfOk-weaker c.where_list_refused.result _ _ (λ f holds n right admitted.
    subst (λ p. value (has n) (condition_of f) ≡ refuses (g.K.Expressions.asked c.args.known.now n) (members_in (seen_tables (has n) c.args.tables.now)) (item_at (has n) p) (plain_type c.args.ty.now)) (sym e) (holds n right admitted)) c.where_list_refused.ensures.same

pub where_item_refused-returns-in-Texts-clause-same : goal.where_item_refused-returns-in-Texts-clause-same
where_item_refused-returns-in-Texts-clause-same g t c =
    let told : c.in-Node.kind ≡ k.Texts = subst (HasShape c.in-Node.kind) (sym c.shape_of.ensures ∙ c.in-Texts.is) (has_shape c.in-Node.kind) in
    let e : plain_item c.args.item.now ≡ inner k.Texts (plain_choices c.in-Node.parts.items) =
    ap plain_item c.in-Node.is ∙ (plain_item-Node c.in-Node.kind c.in-Node.parts ∙ ap (λ kind. inner kind (plain_choices c.in-Node.parts.items)) told) in
    IfOk-weaker c.where_texts.result _ _ (λ f holds n right admitted.
    subst (λ p. value (has n) (condition_of f) ≡ refuses (g.K.Expressions.asked c.args.known.now n) (members_in (seen_tables (has n) c.args.tables.now)) (item_at (has n) p) (plain_type c.args.ty.now)) (sym e)
    (subst (λ p. value (has n) (condition_of f) ≡ as_text (g.K.Expressions.asked c.args.known.now n) (item_at (has n) p) (plain_type c.args.ty.now)) e (holds n right admitted))) c.where_texts.ensures.same

pub where_item_refused-returns-in-Expression-clause-same : goal.where_item_refused-returns-in-Expression-clause-same
where_item_refused-returns-in-Expression-clause-same g t c =
    let told : HasShape c.in-Node.kind Expression = subst (HasShape c.in-Node.kind) (sym c.shape_of.ensures ∙ c.in-Expression.is) (has_shape c.in-Node.kind) in
    let e : plain_item c.args.item.now ≡ inner c.in-Node.kind (plain_choices c.in-Node.parts.items) = ap plain_item c.in-Node.is ∙ plain_item-Node c.in-Node.kind c.in-Node.parts in
    IfOk-weaker c.where_alone-in-Expression.result _ _ (λ f holds n right admitted.
    subst (λ p. value (has n) (condition_of f) ≡ refuses (g.K.Expressions.asked c.args.known.now n) (members_in (seen_tables (has n) c.args.tables.now)) (item_at (has n) p) (plain_type c.args.ty.now)) (sym e)
    (subst (λ p. value (has n) (condition_of f) ≡ alone (g.K.Expressions.asked c.args.known.now n) (item_at (has n) p) (plain_type c.args.ty.now)) e (holds n right admitted)
    ∙ sym (told (g.K.Expressions.asked c.args.known.now n) (members_in (seen_tables (has n) c.args.tables.now)) (parts_at (has n) c.in-Node.kind 0 (plain_choices c.in-Node.parts.items)) (plain_type c.args.ty.now)))) c.where_alone-in-Expression.ensures.same

-- ---- lists

pub where_braces_refused-returns-clause-same : goal.where_braces_refused-returns-clause-same
where_braces_refused-returns-clause-same g t c = IfOk-weaker c.where_some_row.result _ _ (λ f holds n right admitted.
    let each = entries_in (g.K.Expressions.asked c.args.known.now n) (members_in (seen_tables (has n) c.args.tables.now)) (parts_at (has n) k.Initialisers 0 (plain_choices c.args.parts.now)) in
    holds (has n)
    ∙ (ap (λ l. some_row (rows (has n) l)) c.deref.ensures.value
    ∙ (ap some_row (c.in_ok-entries.ensures.same n right admitted)
    ∙ (some_asked (plain_type c.args.ty.now) each
    ∙ ap (λ ps. some_refused (entries_in (g.K.Expressions.asked c.args.known.now n) (members_in (seen_tables (has n) c.args.tables.now)) ps) (plain_type c.args.ty.now)) (sym (same_places (has n) 0 0 (plain_choices c.args.parts.now))))))) c.where_some_row.ensures

pub where_repeated_refused-returns-clause-same : goal.where_repeated_refused-returns-clause-same
where_repeated_refused-returns-clause-same g t c = IfOk-weaker c.where_some_of.result _ _ (λ f holds n right admitted.
    holds n (plain_type c.args.ty.now) (entries_in (g.K.Expressions.asked c.args.known.now n) (members_in (seen_tables (has n) c.args.tables.now)) (parts_at (has n) k.Initialisers 0 (plain_choices c.args.parts.now))) (ap (value (has n)) c.in_ok-entries.ensures.kept ∙ admitted)
    (ap (rows (has n)) c.deref.ensures.value ∙ c.in_ok-entries.ensures.same n right admitted)) c.where_some_of.ensures.same

pub where_members_refused-returns-clause-same : goal.where_members_refused-returns-clause-same
where_members_refused-returns-clause-same g t c = IfOk-weaker c.where_some_pair.result _ _ (λ f holds n right admitted.
    let each = entries_in (g.K.Expressions.asked c.args.known.now n) (members_in (seen_tables (has n) c.args.tables.now)) (parts_at (has n) k.Initialisers 0 (plain_choices c.args.parts.now)) in
    holds n (ap (value (has n)) c.in_ok-entries.ensures.kept ∙ admitted)
    ∙ (ap₂ (λ es ps. rows_in_pairs (rows (has n) es) (numbers (has n) ps)) c.deref-2.ensures.value c.deref-3.ensures.value
    ∙ (ap (λ rs. rows_in_pairs rs (numbers (has n) c.in_ok-members.members.items)) (c.in_ok-entries.ensures.same n right admitted ∙ ap (λ l. asked_each (plain_types l) each) c.deref.ensures.value)
    ∙ pairs_numbered (plain_types c.members_of.new.types.items) each (numbers (has n) c.in_ok-members.members.items) ((members_in (seen_tables (has n) c.args.tables.now)) c.args.structure) (c.in_ok-members.ensures (has n))))) c.where_some_pair.ensures.same

pub entries_for_one-returns-clause-same : goal.entries_for_one-returns-clause-same
entries_for_one-returns-clause-same g t c = IfOk-weaker c.entries_for.result _ _ (λ z same n right admitted.
    let each = entries_in (g.K.Expressions.asked c.args.known.now n) (members_in (seen_tables (has n) c.args.tables.now)) (parts_at (has n) k.Initialisers 0 (plain_choices c.args.parts.now)) in
    same n right admitted
    ∙ ap (λ ts. asked_each ts each)
    (ap plain_types (c.deref.ensures.value ∙ (c.in_ok-push.ensures.items ∙ ap (λ l. l ++ c.in_ok-copied.field-0 ∷ []) c.new-types.ensures.items))
    ∙ ap (λ ty. ty ∷ []) c.in_ok-copied.ensures)) c.entries_for.ensures.same

-- ---- entries

pub push_item-returns-then-not-is_entry-clause-pushes : goal.push_item-returns-then-not-is_entry-clause-pushes
push_item-returns-then-not-is_entry-clause-pushes g t c = λ n right admitted.
    nothing_under (value (has n) (condition_of c.args.when.now)) (rows (has n) c.args.all.now.items) _
    (ap (asked_each (plain_types c.args.types.now)) (no_entry (g.K.Expressions.asked c.args.known.now n) (members_in (seen_tables (has n) c.args.tables.now)) (item_at (has n) (plain_item c.args.item.now)) (sym (c.is_entry.ensures (has n)) ∙ c.if-not-is_entry.true)))

pub push_item-returns-clause-pushes : goal.push_item-returns-clause-pushes
push_item-returns-clause-pushes g t c = λ n right admitted.
    seen_push (row (has n)) (has n) c.args.all.now.items c.push.new.self.items (record { when = c.in_ok-when.when; what = c.in_ok-what.what }) c.in_ok-push.ensures.items
    ∙ (ap₂ (λ b r. rows (has n) c.args.all.now.items ++ under b (r ∷ [])) (ap (value (has n)) c.in_ok-when.ensures) (c.in_ok-what.ensures.same n right admitted)
    ∙ ap (λ es. rows (has n) c.args.all.now.items ++ under (value (has n) (condition_of c.args.when.now)) (asked_each (plain_types c.args.types.now) es))
    (sym (an_entry (g.K.Expressions.asked c.args.known.now n) (members_in (seen_tables (has n) c.args.tables.now)) (item_at (has n) (plain_item c.args.item.now)) (sym (c.is_entry.ensures (has n)) ∙ c.if-not-is_entry.false))))
