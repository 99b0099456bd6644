use Rattle.std.proofs.Common.{◌≡◌, ◌+◌, ◌*◌, Bool, IsTrue, List, ◌++◌, drop, map}
use Rattle.cond_formula.specs.Features.{has}
use Rattle.cond_formula.specs.Conditions.{condition_of, value}
use Rattle.choice_trees.specs.ChoiceTrees.{plain_item, plain_branches, plain_choices, item_at}
use Rattle.choice_trees.specs.Depths.{depth, branches_depth, choices_depth}
use Rattle.type_tables.specs.Seen.{seen_tables}
use Rattle.cond_initialisers.specs.Refusals.{members_in, refuses}
use Rattle.cond_initialisers.specs.Rows.{plain_types, asked_for, rows}
use Rattle.cond_initialisers.proofs.Entries.{entries_from, PartSoFar}
use Rattle.cond_initialisers.proofs.reading.+reading.Given as goal

abbrev pub decreases-where_item_refused : goal.decreases-where_item_refused
decreases-where_item_refused g a = 16 * depth (plain_item a.item.now) + 1

abbrev pub decreases-where_braces_refused : goal.decreases-where_braces_refused
decreases-where_braces_refused g a = 16 * choices_depth (plain_choices a.parts.now) + 9

abbrev pub decreases-where_list_refused : goal.decreases-where_list_refused
decreases-where_list_refused g a = 16 * choices_depth (plain_choices a.parts.now) + 9

abbrev pub decreases-where_repeated_refused : goal.decreases-where_repeated_refused
decreases-where_repeated_refused g a = 16 * choices_depth (plain_choices a.parts.now) + 8

abbrev pub decreases-where_members_refused : goal.decreases-where_members_refused
decreases-where_members_refused g a = 16 * choices_depth (plain_choices a.parts.now) + 8

abbrev pub decreases-entries_for_one : goal.decreases-entries_for_one
decreases-entries_for_one g a = 16 * choices_depth (plain_choices a.parts.now) + 7

abbrev pub decreases-entries_for : goal.decreases-entries_for
decreases-entries_for g a = 16 * choices_depth (plain_choices a.parts.now) + 6

abbrev pub decreases-push_part : goal.decreases-push_part
decreases-push_part g a = 16 * branches_depth (plain_branches a.part.now.branches.items) + 5

abbrev pub decreases-push_item : goal.decreases-push_item
decreases-push_item g a = 16 * depth (plain_item a.item.now) + 3

abbrev pub decreases-row_of : goal.decreases-row_of
decreases-row_of g a = 16 * depth (plain_item a.item.now) + 2

abbrev pub invariant-entries_for-loop-part : goal.invariant-entries_for-loop-part
invariant-entries_for-loop-part g l = record {
  kept : g.O.Oracle.admits l.oracle ≡ g.O.Oracle.admits l.fn.oracle;
  so_far : (n : List Bool) → IsTrue (value (has n) (g.K.Expressions.admits l.known)) → IsTrue (value (has n) (g.O.Oracle.admits l.fn.oracle)) →
      rows (has n) l.all.items ++ entries_from (g.K.Expressions.asked l.known n) (members_in (seen_tables (has n) l.tables)) (plain_types l.types) (has n) (drop l.part-index l.parts)
      ≡ entries_from (g.K.Expressions.asked l.known n) (members_in (seen_tables (has n) l.tables)) (plain_types l.types) (has n) l.parts;
}

abbrev pub invariant-push_part-loop-when : goal.invariant-push_part-loop-when
invariant-push_part-loop-when g l = record {
  kept : g.O.Oracle.admits l.oracle ≡ g.O.Oracle.admits l.fn.oracle;
  so_far : (n : List Bool) → IsTrue (value (has n) (g.K.Expressions.admits l.known)) → IsTrue (value (has n) (g.O.Oracle.admits l.fn.oracle)) →
      PartSoFar (g.K.Expressions.asked l.known n) (members_in (seen_tables (has n) l.tables)) (plain_types l.types) (has n) l.when-items l.when-index (value (has n) (condition_of l.left)) (rows (has n) l.fn.all.items) (rows (has n) l.all.items);
}

abbrev pub invariant-row_of-loop-ty : goal.invariant-row_of-loop-ty
invariant-row_of-loop-ty g l = record {
  kept : g.O.Oracle.admits l.oracle ≡ g.O.Oracle.admits l.fn.oracle;
  so_far : (n : List Bool) → IsTrue (value (has n) (g.K.Expressions.admits l.known)) → IsTrue (value (has n) (g.O.Oracle.admits l.fn.oracle)) →
      map (λ f. value (has n) (condition_of f)) l.refused.items ++ asked_for (plain_types (drop l.ty-index l.types)) (refuses (g.K.Expressions.asked l.known n) (members_in (seen_tables (has n) l.tables)) (item_at (has n) (plain_item l.item)))
      ≡ asked_for (plain_types l.types) (refuses (g.K.Expressions.asked l.known n) (members_in (seen_tables (has n) l.tables)) (item_at (has n) (plain_item l.item)));
}
