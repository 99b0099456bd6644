use Rattle.std.proofs.Common.{◌≡◌, ◌+◌, ◌*◌, Bool, List, IsTrue, drop}
use Rattle.cond_formula.specs.Features.{has}
use Rattle.cond_formula.specs.Conditions.{conditions_of, value, all_true}
use Rattle.choice_trees.specs.ChoiceTrees.{plain_item, plain_branches, plain_choices}
use Rattle.choice_trees.specs.Depths.{depth, branches_depth, choices_depth}
use Rattle.cond_bindings.specs.Names.{Grows, TellsUndeclared}
use Rattle.cond_bindings.specs.PlainNames.{plain_names}
use Rattle.cond_scopes.proofs.Choosing.{ChoiceSoFar}
use Rattle.cond_scopes.proofs.PartReading.{PartsSoFar}
use Rattle.cond_scopes.proofs.parts.+read.Given as goal

abbrev pub invariant-read_choice-loop-when : goal.invariant-read_choice-loop-when
invariant-read_choice-loop-when g l = record {
  kept : g.O.Oracle.admits l.oracle ≡ g.O.Oracle.admits l.fn.oracle;
  so_far :
      (c : List Bool) (needed : Bool) → IsTrue (value (has c) (g.O.Oracle.admits l.fn.oracle))
      → ChoiceSoFar (has c) l.around.declaration l.around.kind needed (plain_branches l.when-items) (all_true (has c) (conditions_of l.path)) (plain_names l.fn.names) l.fn.progress
      (all_true (has c) (conditions_of l.left.items)) (plain_branches (drop l.when-index l.when-items)) (plain_names l.names) l.progress;
  grows : Grows (plain_names l.fn.names) (plain_names l.names);
  tells :
      (c : List Bool) → IsTrue (value (has c) (g.O.Oracle.admits l.fn.oracle)) → TellsUndeclared (has c) (plain_names l.fn.names)
      → TellsUndeclared (has c) (plain_names l.names);
}

abbrev pub invariant-read_parts-loop-part : goal.invariant-read_parts-loop-part
invariant-read_parts-loop-part g l = record {
  kept : g.O.Oracle.admits l.oracle ≡ g.O.Oracle.admits l.fn.oracle;
  so_far :
      (c : List Bool) → IsTrue (value (has c) (g.O.Oracle.admits l.fn.oracle))
      → PartsSoFar (has c) l.around.declaration l.around.kind l.parts (all_true (has c) (conditions_of l.path)) (plain_names l.fn.names) l.part-index (plain_names l.names) l.progress;
  grows : Grows (plain_names l.fn.names) (plain_names l.names);
  tells :
      (c : List Bool) → IsTrue (value (has c) (g.O.Oracle.admits l.fn.oracle)) → TellsUndeclared (has c) (plain_names l.fn.names)
      → TellsUndeclared (has c) (plain_names l.names);
}

abbrev pub decreases-read_item : goal.decreases-read_item
decreases-read_item g a = 4 * depth (plain_item a.item.now)

abbrev pub decreases-read_choice : goal.decreases-read_choice
decreases-read_choice g a = 4 * branches_depth (plain_branches a.choice.now.branches.items) + 1

abbrev pub decreases-read_parts : goal.decreases-read_parts
decreases-read_parts g a = 4 * choices_depth (plain_choices a.parts.now) + 2

abbrev pub decreases-read_node : goal.decreases-read_node
decreases-read_node g a = 4 * choices_depth (plain_choices a.parts.now) + 3
