use Rattle.std.proofs.Common.{◌≡◌, ℕ, Bool, ◌||◌, drop}
use Rattle.cond_formula.specs.Conditions.{condition_of, value}
use Rattle.cond_runs.specs.CondCalls.{calls_at}
use Rattle.cond_runs.specs.Pieces.{some_open}
use Rattle.cond_runs.proofs.runs.when_open.Given as goal

abbrev pub invariant-loop-call : goal.invariant-loop-call
invariant-loop-call l = (on : ℕ → Bool) → (value on (condition_of l.some) || some_open (calls_at on (drop l.call-index l.calls))) ≡ some_open (calls_at on l.calls)
