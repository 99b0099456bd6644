use Rattle.std.proofs.Common.{◌≡◌, Bool, IsTrue, List}
use Rattle.std.specs.Prelude.{option_map}
use Rattle.cond_formula.specs.Features.{has}
use Rattle.cond_formula.specs.Conditions.{value}
use Rattle.conditional.specs.Entries.{entry_of, entries_of, Stands}
use Rattle.c_text.specs.Token.{PlainToken}
use Rattle.c_types.specs.Types.{PlainType}
use Rattle.c_tree.specs.Trees.{plain_tree}
use Rattle.choice_trees.specs.ChoiceTrees.{plain_item, item_at}
use Rattle.core_meaning.specs.Entities.{Scope}
use Rattle.operand_types.specs.OperandTypes.{outcome_as, renumbered}
use Rattle.operand_rules.specs.PlainOperandTypes.{reason}
use Rattle.type_tables.specs.Forms.{declared_type_form}
use Rattle.type_tables.specs.Seen.{seen_tables}
use Rattle.type_tables.specs.Follows.{IsThere, Follows}
use Rattle.cond_declarators.specs.Types.{object_type_in}
use Rattle.cond_declarators.proofs.Placing.{PlacedSoFar}
use Rattle.cond_declarators.proofs.objects.types_of_each.Given as goal

abbrev pub invariant-loop-base : goal.invariant-loop-base
invariant-loop-base g l = record {
  kept : g.O.Oracle.admits l.oracle ≡ g.O.Oracle.admits l.fn.oracle;
  so_far : (n : List Bool) (scope : Scope) (f : Follows (seen_tables (has n) l.tables) scope) (ty : PlainType) (name : PlainToken) → IsTrue (value (has n) (g.O.Oracle.admits l.fn.oracle))
      → IsThere scope.structs ty → Stands (has n) (renumbered f.by ty) (entries_of declared_type_form l.bases)
      → PlacedSoFar declared_type_form reason (has n) (entry_of declared_type_form) l.bases (renumbered f.by ty)
      (outcome_as (renumbered f.by) (object_type_in scope ty (plain_tree l.declarator) name (option_map (λ item. item_at (has n) (plain_item item.now)) l.initialiser))) l.base-index l.all;
}
