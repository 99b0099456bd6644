use Rattle.std.proofs.Common.{◌≡◌, ℕ, Bool, true, false, IsTrue, List, map, drop}
use Rattle.cond_formula.specs.Features.{has}
use Rattle.cond_formula.specs.Conditions.{condition_of, value}
use Rattle.conditional.specs.Entries.{entry_of, entries_of, seen, under, Stands}
use Rattle.c_text.specs.Token.{plain_token}
use Rattle.c_types.specs.Types.{PlainType}
use Rattle.plain_objects.specs.PlainStates.{plain_storage}
use Rattle.type_tables.specs.Forms.{declared_type_form}
use Rattle.conditional_steps.specs.Here.{Unchanged}
use Rattle.conditional_steps.proofs.Alternatives.{SoFar}
use Rattle.conditional_steps.proofs.FirstAlternative.{only_first}
use Rattle.cond_units.specs.Seen.{seen_unit, initialiser_at}
use Rattle.cond_units.specs.Declaring.{IsInitialiser, object_of_type, DeclaresTyped}
use Rattle.cond_units.proofs.object_types.declare_by_types.Given as goal

abbrev pub invariant-loop-alternative : goal.invariant-loop-alternative
invariant-loop-alternative g l = record {
  kept : g.O.Oracle.admits l.oracle ≡ g.O.Oracle.admits l.fn.oracle;
  elsewhere : (n : List Bool) → IsTrue (value (has n) (g.O.Oracle.admits l.fn.oracle)) → value (has n) (condition_of l.when) ≡ false
      → (value (has n) (condition_of l.left) ≡ false) × (seen_unit (has n) l.unit ≡ seen_unit (has n) l.fn.unit) × (value (has n) (condition_of l.refused) ≡ false);
  so_far : (n : List Bool) (globals : ℕ) (ty : PlainType) → IsTrue (value (has n) (g.O.Oracle.admits l.fn.oracle)) → value (has n) (condition_of l.when) ≡ true → Stands (has n) ty (entries_of declared_type_form l.types)
      → SoFar Unchanged (λ ty. DeclaresTyped ty (object_of_type globals (plain_storage l.declaration.storage) (plain_token l.name) (initialiser_at (has n) l.declaration) (g.B.Behind.rest l.declaration.behind.now n))
      (IsInitialiser (initialiser_at (has n) l.declaration))) ty (seen_unit (has n) l.fn.unit)
      (under (value (has n) (condition_of l.left)) (only_first (seen (has n) (map (entry_of declared_type_form) (drop l.alternative-index l.types))))) (seen_unit (has n) l.unit) (value (has n) (condition_of l.refused));
}
