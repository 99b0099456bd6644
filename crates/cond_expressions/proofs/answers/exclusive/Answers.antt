use Rattle.std.proofs.Common.{rules, ◌||◌, refl, ap, ◌∙◌, arith}
use Rattle.cond_formula.specs.Conditions.{Condition, condition_of, value}
use Rattle.cond_formula.specs.ConditionLaws.{condition_of-False}
use Rattle.conditional.specs.Entries.{entries_of}
use Rattle.cond_expressions.specs.Values.{values_at}
use Rattle.cond_expressions.proofs.Exclusion.{starts, step_at, all_told, ended, values_push}
use Rattle.cond_expressions.proofs.answers.exclusive.Goals as goal

pub loop-i-init : goal.loop-i-init
loop-i-init c = λ on. starts on (entries_of (λ w. w.value) c.args.alternatives.now) _ _ (rw condition_of-False refl) (ap (values_at on) c.in_ok-answers.ensures.items)

pub loop-i-preserved : goal.loop-i-preserved
loop-i-preserved c = λ on.
    step_at (λ w. w.value) on c.args.alternatives.now c.index-alternatives-i.result c.loop-i.i (value on (condition_of c.loop-i.earlier)) c.is_last-is_last.result _ _ _ _
    (omega arith) c.index-alternatives-i.is (λ t. c.is_last-is_last.ensures t)
    (c.in_ok-earlier.ensures.holds on ∙ ap (λ (k : Condition). value on (condition_of c.loop-i.earlier) || value on k) c.in_ok-try_clone.ensures)
    (c.in_ok-when.ensures on)
    (values_push on c.loop-i.answers.items c.push.new.self.items c.in_ok-when.when c.index-alternatives-i.result.what.value (search rules))
    (c.loop-i.invariant on)

pub returns-clause-stands : goal.returns-clause-stands
returns-clause-stands c = λ on v stands.
    all_told on (entries_of (λ w. w.value) c.args.alternatives.now) _ _ _ (ended (λ w. w.value) c.args.alternatives.now c.loop-i.i (omega arith)) (c.loop-i.invariant on) v stands
