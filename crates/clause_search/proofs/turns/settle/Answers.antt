use Rattle.std.proofs.Common.{Bool, List, Option, ap, subst, arith}
use Rattle.clause_search.specs.Answers.{literals_of, steps_of}
use Rattle.clause_search.specs.Known.{known_of}
use Rattle.clause_search.specs.Searches.{IsFirstOpen}
use Rattle.clause_search.proofs.TurnLaws.{decided, next_within}
use Rattle.clause_search.proofs.turns.settle.Goals as goal

pub decide-requires : goal.decide-requires
decide-requires c =
    let given = literals_of c.args.given.now in
    let steps = steps_of c.args.state.now.steps.items in
    let first = subst (λ (values : List (Option Bool)). IsFirstOpen values c.in-Some.variable) c.deref.ensures.value c.in-Some.ensures in
    let within = next_within c.args.vars given steps c.args.state.now.decisions.items (known_of c.args.trail) c.requires.searching c.requires.known c.in-Some.variable first in
    omega arith

pub returns-in_ok-decide-in-Some : goal.returns-in_ok-decide-in-Some
returns-in_ok-decide-in-Some c =
    let given = literals_of c.args.given.now in
    let steps = steps_of c.args.state.now.steps.items in
    let first = subst (λ (values : List (Option Bool)). IsFirstOpen values c.in-Some.variable) c.deref.ensures.value c.in-Some.ensures in
    let after = decided c.args.vars given steps c.args.state.now.decisions.items (known_of c.args.trail) c.requires.searching c.requires.known c.in-Some.variable first in
    let same = ap steps_of c.in_ok-decide-in-Some.ensures.steps in
    rw (same, c.in_ok-decide-in-Some.ensures.decisions) after
