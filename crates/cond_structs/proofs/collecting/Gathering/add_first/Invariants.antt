use Rattle.std.proofs.Common.{◌≡◌, ℕ, Bool, false, ◌&&◌, drop}
use Rattle.std.specs.Prelude.{if◌then◌else◌}
use Rattle.cond_formula.specs.Conditions.{condition_of, value}
use Rattle.c_types.specs.Types.{PlainType}
use Rattle.conditional.specs.Entries.{some_holds, Carry, entries_of}
use Rattle.type_tables.specs.Forms.{declared_type_form}
use Rattle.type_tables.specs.Seen.{seen_tables}
use Rattle.cond_structs.specs.Gathered.{gathered, with_type, Keeps}
use Rattle.cond_structs.proofs.collecting.Gathering.add_first.Given as goal

abbrev pub invariant-loop-entry : goal.invariant-loop-entry
invariant-loop-entry l = record {
  less : (on : ℕ → Bool) → value on (condition_of l.here) ≡ false → value on (condition_of l.left) ≡ false;
  keeps : (on : ℕ → Bool) → Keeps (value on (condition_of l.here)) (gathered on l.fn.self) (gathered on l.self);
  adds : (on : ℕ → Bool) (ty : PlainType) → Carry on ty (entries_of declared_type_form l.types)
      → Carry on ty (entries_of declared_type_form (drop l.entry-index l.types))
      × ((if value on (condition_of l.left) && some_holds on (entries_of declared_type_form (drop l.entry-index l.types)) then with_type (seen_tables on l.tables) l.name ty (gathered on l.self) else gathered on l.self)
      ≡ (if value on (condition_of l.here) && some_holds on (entries_of declared_type_form l.types) then with_type (seen_tables on l.tables) l.name ty (gathered on l.fn.self) else gathered on l.fn.self));
}
