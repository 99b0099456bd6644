use Rattle.std.proofs.lemmas.Result.{IfOk-weaker}
use Rattle.cond_formula.specs.Features.{has}
use Rattle.choice_trees.specs.ChoiceTrees.{semicolon}
use Rattle.expression_types.specs.Reading as spec
use Rattle.cond_nodes.proofs.Arms.{value_number_at}
use Rattle.cond_nodes.proofs.nodes.conditional_node.Goals as goal

pub returns-clause-shows : goal.returns-clause-shows
returns-clause-shows g c =
    IfOk-weaker c.either.result _ _ (λ z shows n callable known p admitted numbers each.
    shows semicolon (spec.sign 0 p) n (spec.operand 0 p) (spec.value 1 p) (spec.value 2 p) admitted (value_number_at p.operands 1 numbers)
    (c.in_ok-condition.ensures (has n) callable p.operands each) (c.in_ok-a.ensures (has n) callable p.operands each) (c.in_ok-b.ensures (has n) callable p.operands each)) c.either.ensures.shows
