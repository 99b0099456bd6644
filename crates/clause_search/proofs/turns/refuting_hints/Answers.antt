use Rattle.std.proofs.Common.{ℕ, List, Option, IfSome, ap, ◌∙◌, subst}
use Rattle.refute_check.specs.Steps.{no_values, all_taken_false, step_fault}
use Rattle.clause_search.specs.Answers.{literals_of, steps_of}
use Rattle.clause_search.specs.Following.{numbered}
use Rattle.clause_search.specs.Known.{known_of, IsRefutedAt}
use Rattle.clause_search.proofs.KnownLaws.{AreFollowed-none}
use Rattle.clause_search.proofs.TurnLaws.{step_fine}
use Rattle.clause_search.proofs.turns.refuting_hints.Goals as goal

pub returns-in_ok-hints-in-Some : goal.returns-in_ok-hints-in-Some
returns-in_ok-hints-in-Some c =
    let clauses = numbered (literals_of c.args.given.now) (steps_of c.args.steps.now) in
    let decisions = c.args.decisions.now in
    let start = all_taken_false (no_values c.args.vars) decisions in
    let after = known_of c.propagate.new.self in
    let begun = AreFollowed-none clauses start (known_of c.in_ok-trail.trail) c.in_ok-trail.ensures.values c.in_ok-trail.ensures.hints in
    let follows = c.in_ok-conflict.ensures.goes_on.each start begun in
    let refuted = subst (λ (conflict : Option ℕ). IfSome conflict (IsRefutedAt clauses after)) c.in-Some.is c.in_ok-conflict.ensures.conflict in
    ap (λ (hints : List ℕ). step_fault c.args.vars clauses decisions hints) c.in_ok-hints-in-Some.ensures
    ∙ step_fine c.args.vars clauses decisions after c.in-Some.number c.requires follows refuted
