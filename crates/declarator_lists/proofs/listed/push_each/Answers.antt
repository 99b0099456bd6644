use Rattle.std.proofs.Common.{refl, ap, ◌∙◌, [], ◌∷◌, ◌++◌}
use Rattle.cond_formula.specs.Conditions.{value}
use Rattle.conditional.specs.Entries.{seen, under}
use Rattle.choice_trees.specs.ChoiceTrees.{plain_item, item_at}
use Rattle.declarator_lists.specs.Lists.{declared}
use Rattle.declarator_lists.specs.Entries.{initialised_at, declarator_at, listed_at}
use Rattle.declarator_lists.proofs.Pushing.{pushed, one_given, all_given}
use Rattle.declarator_lists.proofs.listed.push_each.Goals as goal

pub loop-one-init : goal.loop-one-init
loop-one-init c = λ on. refl

pub loop-one-preserved : goal.loop-one-preserved
loop-one-preserved c = λ on.
    one_given on (initialised_at on) (declared (item_at on (plain_item c.args.declarator.now))) c.args.initialised.now (seen on (listed_at on c.args.all.now.items)) (seen on (listed_at on c.loop-one.all.items)) (seen on (listed_at on c.push.new.self.items))
    c.loop-one.one-index c.one-item.result c.loop-one-test.true c.one-item.is
    (pushed on (declarator_at on) (record { when = c.in_ok-when.when; declarator = c.args.declarator; initialiser = c.one-item.result.initialiser }) c.loop-one.all.items c.push.new.self.items c.in_ok-push.ensures.items
    ∙ ap (λ when. seen on (listed_at on c.loop-one.all.items) ++ under (value on when) ((declarator_at on (record { when = c.in_ok-when.when; declarator = c.args.declarator; initialiser = c.one-item.result.initialiser })).what ∷ [])) c.in_ok-when.ensures)
    (c.loop-one.invariant on)

pub returns : goal.returns
returns c = λ on.
    all_given on (initialised_at on) (declared (item_at on (plain_item c.args.declarator.now))) c.args.initialised.now (seen on (listed_at on c.args.all.now.items)) (seen on (listed_at on c.loop-one.all.items)) c.loop-one.one-index c.loop-one-test.false
    (c.loop-one.invariant on)
