use Rattle.std.proofs.Common.{refl, ap₂, ◌∙◌, [], ◌∷◌, ◌++◌}
use Rattle.cond_formula.specs.Conditions.{value}
use Rattle.conditional.specs.Entries.{first, seen, under}
use Rattle.declarator_lists.specs.Entries.{head_at, initialised_at, all_initialised_at}
use Rattle.declarator_lists.proofs.Pushing.{pushed, one_given, all_given}
use Rattle.declarator_lists.proofs.initialised.push_firsts.Goals as goal

pub loop-value-init : goal.loop-value-init
loop-value-init c = λ on. refl

pub loop-value-preserved : goal.loop-value-preserved
loop-value-preserved c = λ on.
    one_given on (head_at on) first c.args.values.now (seen on (all_initialised_at on c.args.all.now.items)) (seen on (all_initialised_at on c.loop-value.all.items)) (seen on (all_initialised_at on c.push.new.self.items))
    c.loop-value.value-index c.value-item.result c.loop-value-test.true c.value-item.is
    (pushed on (initialised_at on) (record { when = c.in_ok-when.when; initialiser = c.first_of-initialiser.result }) c.loop-value.all.items c.push.new.self.items c.in_ok-push.ensures.items
    ∙ ap₂ (λ when what. seen on (all_initialised_at on c.loop-value.all.items) ++ under (value on when) (what ∷ [])) c.in_ok-when.ensures (c.first_of-initialiser.ensures on))
    (c.loop-value.invariant on)

pub returns : goal.returns
returns c = λ on.
    all_given on (head_at on) first c.args.values.now (seen on (all_initialised_at on c.args.all.now.items)) (seen on (all_initialised_at on c.loop-value.all.items)) c.loop-value.value-index c.loop-value-test.false
    (c.loop-value.invariant on)
