use Rattle.std.proofs.Common.{◌≡◌, ℕ, Bool, ◌||◌, ◌++◌, drop}
use Rattle.cond_formula.specs.Conditions.{condition_of, value}
use Rattle.conditional.specs.Entries.{entries_of, seen}
use Rattle.cond_bodies.specs.CondMeanings.{plain_function}
use Rattle.cond_runs.specs.CondArguments.{lists_at, fit_among, some_unfit}
use Rattle.cond_runs.proofs.arguments.all_fitting.Given as goal

abbrev pub invariant-loop-function : goal.invariant-loop-function
invariant-loop-function l = record {
  functions : (on : ℕ → Bool) → seen on (entries_of plain_function l.all.functions.items) ++ fit_among (lists_at on l.arguments) (seen on (entries_of plain_function (drop l.function-index l.functions)))
      ≡ fit_among (lists_at on l.arguments) (seen on (entries_of plain_function l.functions));
  unfit : (on : ℕ → Bool) → (value on (condition_of l.all.unfit) || some_unfit (lists_at on l.arguments) (seen on (entries_of plain_function (drop l.function-index l.functions))))
      ≡ some_unfit (lists_at on l.arguments) (seen on (entries_of plain_function l.functions));
}
