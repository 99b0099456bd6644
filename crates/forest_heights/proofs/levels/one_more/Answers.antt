use Rattle.std.proofs.Common.{List, ◌++◌, ◌&&◌, ap, ◌∙◌}
use Rattle.cond_formula.specs.declared.formulas.Formula.{Formula, True}
use Rattle.cond_formula.specs.Conditions.{Condition, condition_of, value}
use Rattle.cond_formula.specs.ConditionLaws.{condition_of-True}
use Rattle.forest_heights.specs.Levels.{values}
use Rattle.forest_heights.proofs.Telling.{grown, one_more_told}
use Rattle.forest_heights.proofs.levels.one_more.Goals as goal

pub loop-level-init : goal.loop-level-init
loop-level-init c = λ on.
    ap (λ (xs : List Formula). values on xs ++ grown (value on (condition_of True)) (value on (condition_of c.args.when.now)) (values on c.args.levels.now)) c.in_ok-longer.ensures.items
    ∙ ap (λ (k : Condition). grown (value on k) (value on (condition_of c.args.when.now)) (values on c.args.levels.now)) condition_of-True

pub returns : goal.returns
returns c = λ on.
    one_more_told on (value on (condition_of c.args.when.now)) c.args.levels.now c.loop-level.longer.items c.loop-level.level-index c.loop-level.below
    c.loop-level-test.false c.in_ok-both.field-0 c.push-2.new.self.items c.in_ok-push-2.ensures.items
    (c.in_ok-both.ensures on ∙ ap (λ (k : Condition). value on (condition_of c.loop-level.below) && value on k) c.in_ok-try_clone-3.ensures) (c.loop-level.invariant on)
