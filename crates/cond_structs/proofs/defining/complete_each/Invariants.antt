use Rattle.std.proofs.Common.{◌≡◌, ℕ, Bool, false, ◌&&◌, drop}
use Rattle.cond_formula.specs.Conditions.{condition_of, value}
use Rattle.c_types.specs.Types.{structure}
use Rattle.conditional.specs.Entries.{some_holds, Carry, entries_of}
use Rattle.type_tables.specs.Forms.{declared_type_form}
use Rattle.type_tables.specs.Seen.{seen_tables}
use Rattle.type_tables.specs.Steps.{with_completed, where_true}
use Rattle.cond_structs.specs.Gathered.{gathered}
use Rattle.cond_structs.proofs.defining.complete_each.Given as goal

abbrev pub invariant-loop-entry : goal.invariant-loop-entry
invariant-loop-entry l = record {
  less : (on : ℕ → Bool) → value on (condition_of l.fn.when) ≡ false → value on (condition_of l.left) ≡ false;
  elsewhere : (on : ℕ → Bool) → value on (condition_of l.fn.when) ≡ false → seen_tables on l.tables ≡ seen_tables on l.fn.tables;
  completes : (on : ℕ → Bool) (n : ℕ) → Carry on (structure n) (entries_of declared_type_form l.types)
      → Carry on (structure n) (entries_of declared_type_form (drop l.entry-index l.types))
      × (where_true (value on (condition_of l.left) && some_holds on (entries_of declared_type_form (drop l.entry-index l.types))) (with_completed n (gathered on l.all).members (gathered on l.all).scalars) (seen_tables on l.tables)
      ≡ where_true (value on (condition_of l.fn.when) && some_holds on (entries_of declared_type_form l.types)) (with_completed n (gathered on l.all).members (gathered on l.all).scalars) (seen_tables on l.fn.tables));
}
