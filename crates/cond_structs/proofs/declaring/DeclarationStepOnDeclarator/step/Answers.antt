use Rattle.std.proofs.Common.{refl}
use Rattle.cond_formula.specs.Features.{has}
use Rattle.cond_formula.specs.Conditions.{condition_of, value}
use Rattle.choice_trees.specs.ChoiceTrees.{plain_item, item_at}
use Rattle.cond_structs.proofs.Steps.{declarator_step}
use Rattle.cond_structs.proofs.declaring.DeclarationStepOnDeclarator.step.Goals as goal

pub returns-clause-steps : goal.returns-clause-steps
returns-clause-steps g c = λ n m admitted means.
    declarator_step (has n) c.args.self.now c.for_each_expansion.new.state.all m (item_at (has n) (plain_item c.args.declarator.now)) means (value (has n) (condition_of c.args.when.now)) c.in_ok-here.here c.replace-all.result
    (c.in_ok-here.ensures (has n))
    c.replace-all.ensures.value c.for_each_expansion.new.state refl (λ k holds. c.in_ok-for_each_expansion.ensures.steps n k admitted holds)
