use Rattle.std.proofs.Common.{◌≡◌, None, ◌∙◌}
use Rattle.refute_check.specs.Steps.{step_fault}
use Rattle.clause_search.specs.Answers.{literals_of, steps_of}
use Rattle.clause_search.specs.Following.{numbered}
use Rattle.clause_search.specs.Known.{known_of}
use Rattle.clause_search.proofs.DecisionLaws.{is_clause-filter}
use Rattle.clause_search.proofs.TurnLaws.{step_fine}
use Rattle.clause_search.proofs.turns.learn.Goals as goal

pub refuting_hints-requires : goal.refuting_hints-requires
refuting_hints-requires c =
    let chosen = c.in_ok-grounds.ensures in
    rw (c.deref-4.ensures.value, chosen.1, c.deref-2.ensures.value) (is_clause-filter c.args.vars chosen.0 c.args.state.now.decisions.items c.requires.searching.formed)

pub returns-in_ok-turn-in-None : goal.returns-in_ok-turn-in-None
returns-in_ok-turn-in-None c =
    let clauses = numbered (literals_of c.args.given.now) (steps_of c.args.state.now.steps.items) in
    let decisions = c.args.state.now.decisions.items in
    let copied : c.in_ok-decisions-in-None.decisions.items ≡ decisions = c.in_ok-decisions-in-None.ensures.items ∙ c.deref-in-None.ensures.value in
    let fine : step_fault c.args.vars clauses c.in_ok-decisions-in-None.decisions.items c.in_ok-hints-in-None.hints.items ≡ None =
    rw (copied, c.in_ok-hints-in-None.ensures) (step_fine c.args.vars clauses decisions (known_of c.args.trail) c.args.number c.requires.searching.formed c.requires.known c.requires.refuted) in
    c.in_ok-turn-in-None.ensures c.args.vars c.requires.formed c.requires.searching fine
