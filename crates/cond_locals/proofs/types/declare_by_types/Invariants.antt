use Rattle.std.proofs.Common.{◌≡◌, Bool, true, false, IsTrue, List, map, drop}
use Rattle.std.specs.Prelude.{option_map}
use Rattle.cond_formula.specs.Features.{has}
use Rattle.cond_formula.specs.Conditions.{condition_of, value}
use Rattle.conditional.specs.Entries.{entry_of, entries_of, seen, under, Stands}
use Rattle.c_text.specs.Token.{plain_token}
use Rattle.c_types.specs.Types.{PlainType}
use Rattle.choice_trees.specs.ChoiceTrees.{plain_item, item_at}
use Rattle.type_tables.specs.Forms.{declared_type_form}
use Rattle.type_tables.specs.Seen.{seen_tables}
use Rattle.type_tables.specs.Blocks.{OnlyLocals}
use Rattle.cond_locals.specs.Declaring.{IsDeclared}
use Rattle.conditional_steps.specs.Here.{Unchanged}
use Rattle.conditional_steps.proofs.Alternatives.{SoFar}
use Rattle.conditional_steps.proofs.FirstAlternative.{only_first}
use Rattle.cond_locals.proofs.types.declare_by_types.Given as goal

abbrev pub invariant-loop-alternative : goal.invariant-loop-alternative
invariant-loop-alternative g l = record {
  kept : g.O.Oracle.admits l.oracle ≡ g.O.Oracle.admits l.fn.oracle;
  outside : OnlyLocals l.fn.tables l.tables;
  elsewhere : (n : List Bool) → IsTrue (value (has n) (g.O.Oracle.admits l.fn.oracle)) → value (has n) (condition_of l.when) ≡ false
      → (value (has n) (condition_of l.left) ≡ false) × (seen_tables (has n) l.tables ≡ seen_tables (has n) l.fn.tables) × (value (has n) (condition_of l.refused) ≡ false);
  so_far : (n : List Bool) (ty : PlainType) → IsTrue (value (has n) (g.O.Oracle.admits l.fn.oracle)) → value (has n) (condition_of l.when) ≡ true → Stands (has n) ty (entries_of declared_type_form l.types)
      → SoFar Unchanged (λ ty. IsDeclared ty (plain_token l.name) (option_map (λ item. item_at (has n) (plain_item item.now)) l.initialiser)) ty (seen_tables (has n) l.fn.tables)
      (under (value (has n) (condition_of l.left)) (only_first (seen (has n) (map (entry_of declared_type_form) (drop l.alternative-index l.types))))) (seen_tables (has n) l.tables) (value (has n) (condition_of l.refused));
}
