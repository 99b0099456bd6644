use Rattle.std.proofs.Common.{Bool, not, ◌&&◌, ap, ◌∙◌}
use Rattle.cond_formula.specs.Conditions.{condition_of, value}
use Rattle.conditional.specs.Entries.{entries_of, seen}
use Rattle.cond_bodies.specs.CondMeanings.{plain_function}
use Rattle.cond_bodies.proofs.LevelLemmas.{holds_is_seen}
use Rattle.cond_runs.specs.Functions.{some_seen}
use Rattle.cond_macros.proofs.CondRunLemmas.{lists_some}
use Rattle.cond_macros.proofs.replacing.ways_of.Goals as goal

pub returns-clause-object : goal.returns-clause-object
returns-clause-object c = λ on.
    let objects = c.args.objects.now in
    c.in_ok-inner.ensures on
    ∙ ap (λ (b : Bool). value on (condition_of c.args.when.now) && b) (c.in_ok-some.ensures on ∙ holds_is_seen plain_function on objects ∙ lists_some (seen on (entries_of plain_function objects)))

pub returns-clause-call : goal.returns-clause-call
returns-clause-call c = λ on. c.in_ok-inner-2.ensures on ∙ ap (λ (b : Bool). value on (condition_of c.args.when.now) && b) (c.in_ok-calls.ensures on)

pub returns-clause-stays : goal.returns-clause-stays
returns-clause-stays c = λ on.
    let objects = c.args.objects.now in
    let other = value on (condition_of c.args.when.now) && not (value on (condition_of c.args.feature.now)) in
    c.in_ok-stays.ensures on
    ∙ ap (λ (b : Bool). (other && not b) && not (value on (condition_of c.in_ok-calls.calls))) (c.in_ok-some.ensures on ∙ holds_is_seen plain_function on objects ∙ lists_some (seen on (entries_of plain_function objects)))
    ∙ ap (λ (b : Bool). (other && not (some_seen (seen on (entries_of plain_function objects)))) && not b) (c.in_ok-calls.ensures on)
