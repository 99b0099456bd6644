use Rattle.std.proofs.Common.{◌≡◌, Bool, true, false, List, Option, sym, ap, ◌∙◌, subst, slice_get, IsSomeAnd}
use Rattle.std.specs.List.{list_any}
use Rattle.refute_check.specs.Steps.{all_false}
use Rattle.clause_search.specs.Answers.{literals_of, steps_of}
use Rattle.clause_search.specs.Known.{known_of}
use Rattle.clause_search.proofs.TurnLaws.{found_values, least_found, refuted_there}
use Rattle.clause_search.proofs.turns.finish.Goals as goal

pub learn-requires-clause-refuted : goal.learn-requires-clause-refuted
learn-requires-clause-refuted c =
    let given = literals_of c.args.given.now in
    let steps = steps_of c.args.state.now.steps.items in
    let P : List (Option Bool) → Type 0 = λ values. IsSomeAnd (slice_get given c.in-Some.index) (λ clause. all_false values clause ≡ true) in
    let found : P c.args.trail.values.items = subst P c.deref.ensures.value c.in-Some.ensures in
    refuted_there given steps (known_of c.args.trail) c.in-Some.index c.in_ok-number-in-Some.number c.in_ok-number-in-Some.ensures found

pub returns-in_ok-values-in-None : goal.returns-in_ok-values-in-None
returns-in_ok-values-in-None c =
    let given = literals_of c.args.given.now in
    let steps = steps_of c.args.state.now.steps.items in
    let none : list_any (all_false c.args.trail.values.items) given ≡ false = ap (λ (values : List (Option Bool)). list_any (all_false values) given) (sym c.deref.ensures.value) ∙ c.in-None.ensures in
    let all : c.in_ok-values-in-None.values.items ≡ found_values c.args.trail.values.items = c.in_ok-values-in-None.ensures ∙ ap found_values c.deref-in-None.ensures.value in
    least_found c.args.vars given steps c.args.state.now.decisions.items (known_of c.args.trail) c.requires.formed c.requires.searching c.requires.known c.requires.valued none c.in_ok-values-in-None.values.items all
