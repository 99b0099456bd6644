-- What is seen of a run in a configuration.
use Rattle.std.specs.Prelude.{ℕ, Bool, map, Option}
use Rattle.cond_formula.specs.Conditions.{condition_of, value}
use Rattle.cond_bodies.specs.CondItems.{items_at}
use Rattle.cond_runs.specs.Looked.{looked}
use Rattle.cond_runs.specs.Pieces.{Piece, unless_refused}
use Rattle.cond_runs.specs.CondCalls.{calls_at}
use Rattle.cond_runs.specs.declared.runs.Run.{Run}

unfoldable pub run_at : Bool → (ℕ → Bool) → Run → Option Piece
run_at exact on run = unless_refused (value on (condition_of run.refused)) (record { done = map (looked exact) (items_at on run.done.items); open_calls = calls_at on run.calls.items })
