use Rattle.cond_formula.specs.Features.{has}
use Rattle.cond_formula.specs.Conditions.{condition_of, value}
use Rattle.c_tree.specs.Trees.{plain_tree}
use Rattle.cond_structs.proofs.Steps.{tree_step}
use Rattle.cond_structs.proofs.declaring.DeclarationStepOnTree.step.Goals as goal

pub returns-clause-steps : goal.returns-clause-steps
returns-clause-steps g c = λ n m admitted means.
    tree_step (has n) c.args.self.now c.declare_tree.new.all m (plain_tree c.args.tree.now) means (value (has n) (condition_of c.args.when.now)) (value (has n) (condition_of c.in_ok-here.here))
    (c.in_ok-here.ensures (has n))
    (c.in_ok-declare_tree.ensures.keeps (has n)) (λ scope f ty there shows here. c.in_ok-declare_tree.ensures.comes n scope f ty admitted there shows here)
