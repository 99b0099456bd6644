use Rattle.std.proofs.Common.{◌≡◌, ◌+◌, ◌*◌, Bool, IsTrue, List, drop}
use Rattle.cond_formula.specs.Features.{has}
use Rattle.cond_formula.specs.Conditions.{condition_of, value}
use Rattle.choice_trees.specs.ChoiceTrees.{plain_item, plain_branches, plain_choices, branch_at}
use Rattle.choice_trees.specs.Depths.{depth, branches_depth, choices_depth}
use Rattle.type_tables.specs.Blocks.{OnlyLocals}
use Rattle.cond_member_uses.specs.Noted.{noted_at}
use Rattle.cond_member_uses.proofs.Choices.{Tried, PartsSoFar}
use Rattle.cond_member_uses.proofs.statements.+noting.Given as goal

-- ---- how deep what is noted is

abbrev pub decreases-note_node : goal.decreases-note_node
decreases-note_node g a = 8 * choices_depth (plain_choices a.parts.now) + 5

abbrev pub decreases-note_scoped : goal.decreases-note_scoped
decreases-note_scoped g a = 8 * choices_depth (plain_choices a.parts.now) + 4

abbrev pub decreases-note_parts : goal.decreases-note_parts
decreases-note_parts g a = 8 * choices_depth (plain_choices a.parts.now) + 3

abbrev pub decreases-note_choice : goal.decreases-note_choice
decreases-note_choice g a = 8 * branches_depth (plain_branches a.choice.now.branches.items) + 2

abbrev pub decreases-note_item : goal.decreases-note_item
decreases-note_item g a = 8 * depth (plain_item a.item.now) + 1

-- ---- how far the loops have come

abbrev pub invariant-note_choice-loop-condition : goal.invariant-note_choice-loop-condition
invariant-note_choice-loop-condition g l = record {
  kept : g.O.Oracle.admits l.oracle ≡ g.O.Oracle.admits l.fn.oracle;
  outside : OnlyLocals l.fn.tables l.tables;
  so_far : (n : List Bool) → IsTrue (value (has n) (g.O.Oracle.admits l.fn.oracle)) →
      Tried l.kind (branch_at (has n) (plain_branches l.condition-items)) (value (has n) (condition_of l.when)) (noted_at (has n) l.fn.tables l.fn.log) (value (has n) (condition_of l.rest))
      (branch_at (has n) (plain_branches (drop l.condition-index l.condition-items))) (noted_at (has n) l.tables l.log);
}

abbrev pub invariant-note_parts-loop-part : goal.invariant-note_parts-loop-part
invariant-note_parts-loop-part g l = record {
  kept : g.O.Oracle.admits l.oracle ≡ g.O.Oracle.admits l.fn.oracle;
  outside : OnlyLocals l.fn.tables l.tables;
  so_far : (n : List Bool) → IsTrue (value (has n) (g.O.Oracle.admits l.fn.oracle)) →
      PartsSoFar (has n) l.kind l.parts (value (has n) (condition_of l.when)) (noted_at (has n) l.fn.tables l.fn.log) l.part-index (noted_at (has n) l.tables l.log);
}
