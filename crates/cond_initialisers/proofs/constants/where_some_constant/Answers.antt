use Rattle.std.proofs.Common.{◌&&◌, ◌||◌, ap, ◌∙◌}
use Rattle.cond_formula.specs.Conditions.{condition_of, value}
use Rattle.cond_formula.specs.ConditionLaws.{condition_of-False}
use Rattle.conditional.specs.Entries.{seen}
use Rattle.choice_expansions.specs.Expansions.{expanded}
use Rattle.cond_initialisers.specs.Constants.{some_constant}
use Rattle.cond_initialisers.proofs.SeenConstants.{next_constant, all_constants}
use Rattle.cond_initialisers.proofs.constants.where_some_constant.Goals as goal

pub loop-expansion-init : goal.loop-expansion-init
loop-expansion-init c = λ on. ap (λ b. b || some_constant (value on (condition_of c.args.arrays.now)) (seen on (expanded c.args.expansions.now))) (ap (value on) condition_of-False)

pub loop-expansion-preserved : goal.loop-expansion-preserved
loop-expansion-preserved c = λ on.
    next_constant (value on (condition_of c.args.arrays.now)) on c.args.expansions.now c.expansion-item.result c.loop-expansion.expansion-index (value on (condition_of c.loop-expansion.some))
    (value on (condition_of c.in_ok-constant.constant)) (value on (condition_of c.in_ok-some.some)) c.loop-expansion-test.true c.expansion-item.is (c.in_ok-constant.ensures on)
    (c.in_ok-some.ensures on ∙ ap (λ b. value on (condition_of c.loop-expansion.some) || b)
    (c.in_ok-here.ensures on ∙ ap (λ w. value on w && value on (condition_of c.in_ok-constant.constant)) c.in_ok-try_clone.ensures))
    (c.loop-expansion.invariant on)

pub returns : goal.returns
returns c = λ on.
    all_constants (value on (condition_of c.args.arrays.now)) on c.args.expansions.now c.loop-expansion.expansion-index (value on (condition_of c.loop-expansion.some)) c.loop-expansion-test.false
    (c.loop-expansion.invariant on)
