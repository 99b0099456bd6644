use Rattle.std.proofs.Common.{ap, ◌∙◌}
use Rattle.cond_formula.specs.Conditions.{value}
use Rattle.cond_formula.specs.ConditionLaws.{condition_of-False, condition_of-True}
use Rattle.cond_bodies.specs.CondItems.{items_at}
use Rattle.cond_runs.proofs.ArgumentLemmas.{none_fit, many_unfit}
use Rattle.cond_runs.proofs.arguments.when_not_empty.Goals as goal

pub returns-then-arguments-eq0 : goal.returns-then-arguments-eq0
returns-then-arguments-eq0 c = λ on. ap (value on) condition_of-False ∙ none_fit (λ a. items_at on a.items) c.args.arguments.now c.if-arguments-eq0.true

pub returns-then-arguments-gt1 : goal.returns-then-arguments-gt1
returns-then-arguments-gt1 c = λ on. ap (value on) condition_of-True ∙ many_unfit (λ a. items_at on a.items) c.args.arguments.now c.if-arguments-gt1.true
