use Rattle.std.proofs.Common.{◌≡◌, ◌+◌, ◌*◌, Bool, IsTrue, List, drop}
use Rattle.cond_formula.specs.Features.{has}
use Rattle.cond_formula.specs.Conditions.{condition_of, value}
use Rattle.c_types.specs.Types.{PlainType}
use Rattle.conditional.specs.Entries.{alternatives}
use Rattle.choice_trees.specs.ChoiceTrees.{plain_item, plain_branches, plain_choices, branch_at}
use Rattle.choice_trees.specs.Depths.{depth, branches_depth, choices_depth}
use Rattle.type_tables.specs.Forms.{declared_type_form}
use Rattle.type_tables.specs.Seen.{seen_tables}
use Rattle.type_tables.specs.Blocks.{OnlyLocals}
use Rattle.cond_statements.proofs.Choices.{ChoiceSoFar, PartsSoFar}
use Rattle.cond_statements.proofs.statements.+reading.Given as goal

-- ---- how deep what is read is

abbrev pub decreases-read_node : goal.decreases-read_node
decreases-read_node g a = 8 * choices_depth (plain_choices a.parts.now) + 6

abbrev pub decreases-read_scoped : goal.decreases-read_scoped
decreases-read_scoped g a = 8 * choices_depth (plain_choices a.parts.now) + 5

abbrev pub decreases-read_parts : goal.decreases-read_parts
decreases-read_parts g a = 8 * choices_depth (plain_choices a.parts.now) + 4

abbrev pub decreases-read_choice : goal.decreases-read_choice
decreases-read_choice g a = 8 * branches_depth (plain_branches a.choice.now.branches.items) + 3

abbrev pub decreases-read_alternative : goal.decreases-read_alternative
decreases-read_alternative g a = 8 * depth (plain_item a.item.now) + 2

abbrev pub decreases-read_item : goal.decreases-read_item
decreases-read_item g a = 8 * depth (plain_item a.item.now) + 1

-- ---- how far the loops have come

abbrev pub invariant-read_choice-loop-condition : goal.invariant-read_choice-loop-condition
invariant-read_choice-loop-condition g l = record {
  kept : g.O.Oracle.admits l.oracle ≡ g.O.Oracle.admits l.fn.oracle;
  outside : OnlyLocals l.fn.tables l.tables;
  so_far : (n : List Bool) (ty : PlainType) → IsTrue (value (has n) (g.O.Oracle.admits l.fn.oracle)) →
      ChoiceSoFar (has n) ty (alternatives declared_type_form l.returns) l.around.in_loop l.around.kind (value (has n) (condition_of l.rest)) (value (has n) (condition_of l.when))
      (branch_at (has n) (plain_branches l.condition-items)) (branch_at (has n) (plain_branches (drop l.condition-index l.condition-items))) (seen_tables (has n) l.fn.tables) (seen_tables (has n) l.tables)
      (value (has n) (condition_of l.fn.walk.refused)) (value (has n) (condition_of l.walk.refused)) (value (has n) (condition_of l.fn.walk.turned)) (value (has n) (condition_of l.walk.turned));
}

abbrev pub invariant-read_parts-loop-part : goal.invariant-read_parts-loop-part
invariant-read_parts-loop-part g l = record {
  kept : g.O.Oracle.admits l.oracle ≡ g.O.Oracle.admits l.fn.oracle;
  outside : OnlyLocals l.fn.tables l.tables;
  so_far : (n : List Bool) (ty : PlainType) → IsTrue (value (has n) (g.O.Oracle.admits l.fn.oracle)) →
      PartsSoFar (has n) ty (alternatives declared_type_form l.returns) l.around.in_loop l.around.kind l.parts (value (has n) (condition_of l.when)) (seen_tables (has n) l.fn.tables) (seen_tables (has n) l.tables)
      l.part-index (value (has n) (condition_of l.walk.refused)) (value (has n) (condition_of l.walk.turned));
}
