use Rattle.std.proofs.Common.{◌≡◌, Bool, false, IsTrue, List}
use Rattle.cond_formula.specs.Features.{has}
use Rattle.cond_formula.specs.Conditions.{value}
use Rattle.conditional.specs.Entries.{Stands}
use Rattle.c_tree.specs.Trees.{PlainTree}
use Rattle.choice_expansions.specs.Expansions.{plain_expansion, expanded}
use Rattle.core_meaning.specs.Entities.{Scope}
use Rattle.operand_types.specs.OperandTypes.{outcome_as}
use Rattle.operand_rules.specs.PlainOperandTypes.{reason}
use Rattle.type_tables.specs.Forms.{declared_type_form}
use Rattle.type_tables.specs.Seen.{seen_tables}
use Rattle.type_tables.specs.Follows.{Follows}
use Rattle.cond_declarators.specs.Types.{based_in, base_type}
use Rattle.cond_declarators.proofs.Placing.{PlacedSoFar}
use Rattle.cond_declarators.proofs.bases.types_of_each.Given as goal

abbrev pub invariant-loop-expansion : goal.invariant-loop-expansion
invariant-loop-expansion g l = record {
  kept : g.O.Oracle.admits l.oracle ≡ g.O.Oracle.admits l.fn.oracle;
  so_far : (n : List Bool) (scope : Scope) (f : Follows (seen_tables (has n) l.tables) scope) (words : PlainTree) → IsTrue (value (has n) (g.O.Oracle.admits l.fn.oracle))
      → Stands (has n) words (expanded l.expansions)
      → PlacedSoFar declared_type_form reason (has n) plain_expansion l.expansions words (outcome_as (base_type f.by) (based_in false scope words)) l.expansion-index l.all;
}
