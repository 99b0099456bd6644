use Rattle.std.proofs.Common.{◌≡◌, ℕ, Bool, ◌||◌, drop}
use Rattle.cond_formula.specs.Conditions.{condition_of, value}
use Rattle.conditional.specs.Entries.{entries_of}
use Rattle.type_tables.specs.Forms.{file_name_form}
use Rattle.link_faults.specs.Measures.{some_so}
use Rattle.link_faults.proofs.names.where_some_so.Given as goal

abbrev pub invariant-loop-entry : goal.invariant-loop-entry
invariant-loop-entry g l = (on : ℕ → Bool) →
    (value on (condition_of l.so_far) || some_so (g.A.Asked.holds l.asked on) on (entries_of file_name_form (drop l.entry-index l.entries)))
    ≡ some_so (g.A.Asked.holds l.asked on) on (entries_of file_name_form l.entries)
