use Rattle.std.proofs.Common.{◌≡◌, ℕ, Bool, ◌||◌, drop}
use Rattle.cond_formula.specs.Conditions.{condition_of, value}
use Rattle.link_faults.specs.Measures.{defined_in}
use Rattle.link_faults.proofs.definitions.where_some_define.Given as goal

abbrev pub invariant-loop-entry : goal.invariant-loop-entry
invariant-loop-entry l = (on : ℕ → Bool) → (value on (condition_of l.so_far) || defined_in on l.name (drop l.entry-index l.entries)) ≡ defined_in on l.name l.entries
