use Rattle.std.proofs.Common.{◌≡◌, Bool, true, false, IsTrue, List, map, drop}
use Rattle.std.specs.Prelude.{Some}
use Rattle.cond_formula.specs.Features.{has}
use Rattle.cond_formula.specs.Conditions.{condition_of, value}
use Rattle.conditional.specs.Entries.{entry_of, entries_of, seen, under, Stands}
use Rattle.conditional_steps.proofs.Alternatives.{SoFar}
use Rattle.conditional_steps.proofs.FirstAlternative.{only_first}
use Rattle.c_text.specs.Token.{plain_token}
use Rattle.c_types.specs.Types.{PlainType}
use Rattle.choice_trees.specs.ChoiceTrees.{plain_item, item_at}
use Rattle.type_tables.specs.Forms.{declared_type_form}
use Rattle.cond_parameters.specs.Parameters.{IsList}
use Rattle.cond_units.specs.Seen.{seen_unit}
use Rattle.cond_units.specs.Declaring.{DeclaresTyped}
use Rattle.cond_units.specs.Where.{Stays}
use Rattle.cond_units.proofs.function_types.read_by_types.Given as goal

abbrev pub invariant-loop-alternative : goal.invariant-loop-alternative
invariant-loop-alternative g l = record {
  kept : g.O.Oracle.admits l.oracle ≡ g.O.Oracle.admits l.fn.oracle;
  elsewhere : (n : List Bool) → IsTrue (value (has n) (g.O.Oracle.admits l.fn.oracle)) → value (has n) (condition_of l.when) ≡ false
      → (value (has n) (condition_of l.left) ≡ false) × Stays (seen_unit (has n) l.fn.unit) (seen_unit (has n) l.unit) × (value (has n) (condition_of l.refused) ≡ false);
  so_far : (n : List Bool) (ty : PlainType) → IsTrue (value (has n) (g.O.Oracle.admits l.fn.oracle)) → value (has n) (condition_of l.when) ≡ true
      → Stands (has n) ty (entries_of declared_type_form l.types)
      → SoFar Stays (λ ty. DeclaresTyped ty (g.R.HeadReader.judged l.reader n l.head.stars (plain_token l.head.name.now) (Some (item_at (has n) (plain_item l.head.list.now)))) (IsList (item_at (has n) (plain_item l.head.list.now)) × g.R.HeadReader.ready l.reader n)) ty (seen_unit (has n) l.fn.unit)
      (under (value (has n) (condition_of l.left)) (only_first (seen (has n) (map (entry_of declared_type_form) (drop l.alternative-index l.types))))) (seen_unit (has n) l.unit) (value (has n) (condition_of l.refused));
}
