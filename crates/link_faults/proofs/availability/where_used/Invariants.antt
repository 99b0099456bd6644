use Rattle.std.proofs.Common.{◌≡◌, ℕ, Bool, ◌||◌, drop}
use Rattle.cond_formula.specs.Conditions.{condition_of, value}
use Rattle.link_faults.specs.SeenUnits.{is_used}
use Rattle.link_faults.proofs.availability.where_used.Given as goal

abbrev pub invariant-loop-found : goal.invariant-loop-found
invariant-loop-found l = (on : ℕ → Bool) → (value on (condition_of l.so_far) || is_used on (drop l.found-index l.uses) l.name) ≡ is_used on l.uses l.name
