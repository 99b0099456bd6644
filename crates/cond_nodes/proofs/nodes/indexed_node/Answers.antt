use Rattle.std.proofs.lemmas.Result.{IfOk-weaker}
use Rattle.cond_formula.specs.Features.{has}
use Rattle.expression_types.specs.Reading as spec
use Rattle.cond_nodes.proofs.nodes.indexed_node.Goals as goal

pub returns-clause-shows : goal.returns-clause-shows
returns-clause-shows g c =
    IfOk-weaker c.indexed.result _ _ (λ z shows n callable known p admitted each.
    shows (spec.sign 0 p) n admitted (spec.value 0 p) (spec.value 1 p) (c.in_ok-a.ensures (has n) callable p.operands each) (c.in_ok-b.ensures (has n) callable p.operands each)) c.indexed.ensures.shows
