use Rattle.std.proofs.Common.{ℕ, List, MatchOption, sym, subst}
use Rattle.command_run.specs.Words as spec
use Rattle.command_run.specs.Steps.{run_of}
use Rattle.command_run.proofs.words.asked_run.Goals as goal

pub returns-in_ok-query-in-Some-2 : goal.returns-in_ok-query-in-Some-2
returns-in_ok-query-in-Some-2 c =
    let Asks : List (List ℕ) → Type 0 = λ words. MatchOption c.in_ok-query-in-Some-2.query ((q : spec.RunQuery) → spec.Asks words q → ⊥) (λ query. spec.Asks words (run_of query)) in
    subst Asks (sym c.in-Some.ensures) c.in_ok-query-in-Some-2.ensures
