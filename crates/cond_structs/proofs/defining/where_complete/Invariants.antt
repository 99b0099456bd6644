use Rattle.std.proofs.Common.{◌≡◌, ℕ, Bool, ◌&&◌, ◌||◌, drop}
use Rattle.cond_formula.specs.Conditions.{condition_of, value}
use Rattle.c_types.specs.Types.{PlainType}
use Rattle.conditional.specs.Entries.{some_holds, Carry, entries_of}
use Rattle.type_tables.specs.Tables.{is_complete_type}
use Rattle.type_tables.specs.Forms.{declared_type_form}
use Rattle.type_tables.specs.Seen.{seen_tables}
use Rattle.cond_structs.proofs.defining.where_complete.Given as goal

abbrev pub invariant-loop-entry : goal.invariant-loop-entry
invariant-loop-entry l = (on : ℕ → Bool) (ty : PlainType) → Carry on ty (entries_of declared_type_form l.types)
    → Carry on ty (entries_of declared_type_form (drop l.entry-index l.types))
    × ((value on (condition_of l.found) || (some_holds on (entries_of declared_type_form (drop l.entry-index l.types)) && is_complete_type (seen_tables on l.tables) ty))
    ≡ (some_holds on (entries_of declared_type_form l.types) && is_complete_type (seen_tables on l.tables) ty))
