use Rattle.std.proofs.Common.{◌≡◌, ℕ, Bool, ◌||◌, drop}
use Rattle.std.specs.Prelude.{is_some}
use Rattle.cond_formula.specs.Conditions.{condition_of, value}
use Rattle.conditional.specs.Entries.{seen, entries_of}
use Rattle.type_tables.specs.Forms.{member_form}
use Rattle.type_tables.specs.Tables.{member_named}
use Rattle.cond_structs.proofs.collecting.where_named.Given as goal

abbrev pub invariant-loop-entry : goal.invariant-loop-entry
invariant-loop-entry l = (on : ℕ → Bool) →
    (value on (condition_of l.found) || is_some (member_named (seen on (entries_of member_form (drop l.entry-index l.members))) l.name))
    ≡ is_some (member_named (seen on (entries_of member_form l.members)) l.name)
