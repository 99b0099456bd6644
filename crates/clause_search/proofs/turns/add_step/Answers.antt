use Rattle.std.proofs.Common.{◌≡◌, ◌-◌, List, [], ◌∷◌, ◌++◌, length, take, slice_get, None, sym, ◌∙◌, subst}
use Rattle.refute_check.specs.Refutations as refutations
use Rattle.refute_check.specs.Refutations.{IsRefutation}
use Rattle.clause_search.specs.declared.answers.Step.{Step}
use Rattle.clause_search.specs.Answers.{literals_of, step_of, steps_of}
use Rattle.clause_search.proofs.TurnLaws.{steps_of-push, no_last, taken_back, refutation}
use Rattle.clause_search.proofs.turns.add_step.Goals as goal

pub returns-in-None : goal.returns-in-None
returns-in-None c = λ vars formed searching fine.
    let given = literals_of c.args.given.now in
    let steps = c.args.state.now.steps.items in
    let step : Step = record { clause = c.args.clause; hints = c.args.hints } in
    let added : steps_of c.push.new.self.items ≡ steps_of steps ++ step_of step ∷ [] = steps_of-push steps c.push.new.self.items step c.in_ok-push.ensures.items in
    let none : slice_get c.deref.result.now (length c.deref.result.now - 1) ≡ None = sym c.last.ensures.value ∙ sym c.copied-last.ensures ∙ c.in-None.is in
    let empty : c.args.clause.items ≡ [] = sym c.deref.ensures.value ∙ no_last c.deref.result.now none in
    subst (λ (s : List refutations.Step). IsRefutation vars given s) (sym added) (refutation vars given (steps_of steps) c.args.state.now.decisions.items searching (step_of step) fine formed empty)

pub returns-in_ok-take_back-in-Some : goal.returns-in_ok-take_back-in-Some
returns-in_ok-take_back-in-Some c = λ vars formed searching fine.
    let given = literals_of c.args.given.now in
    let steps = c.args.state.now.steps.items in
    let decisions = c.args.state.now.decisions.items in
    let step : Step = record { clause = c.args.clause; hints = c.args.hints } in
    let added : steps_of c.push.new.self.items ≡ steps_of steps ++ step_of step ∷ [] = steps_of-push steps c.push.new.self.items step c.in_ok-push.ensures.items in
    let front : c.truncate.new.self.items ≡ take c.place_of-count.result decisions = c.truncate.ensures.items in
    rw (added, front) (taken_back vars given (steps_of steps) decisions searching (step_of step) fine c.place_of-count.result)
