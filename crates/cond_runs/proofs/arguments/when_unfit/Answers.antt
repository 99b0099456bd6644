use Rattle.std.proofs.Common.{ap, ◌∙◌}
use Rattle.cond_formula.specs.Conditions.{value}
use Rattle.cond_formula.specs.ConditionLaws.{condition_of-False, condition_of-True}
use Rattle.cond_bodies.specs.CondItems.{items_at}
use Rattle.cond_runs.proofs.ArgumentLemmas.{counts_fit, counts_unfit}
use Rattle.cond_runs.proofs.arguments.when_unfit.Goals as goal

pub returns-then-params-arguments : goal.returns-then-params-arguments
returns-then-params-arguments c = λ on. ap (value on) condition_of-False ∙ counts_fit (λ a. items_at on a.items) (λ n. n.items) c.args.params.now c.args.arguments.now c.if-params-eq0.false c.if-params-arguments.true

pub returns : goal.returns
returns c = λ on. ap (value on) condition_of-True ∙ counts_unfit (λ a. items_at on a.items) (λ n. n.items) c.args.params.now c.args.arguments.now c.if-params-eq0.false c.if-params-arguments.false
