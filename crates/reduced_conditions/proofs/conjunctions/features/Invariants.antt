use Rattle.reduced_conditions.proofs.LiteralLaws.{Listed}
use Rattle.reduced_conditions.proofs.conjunctions.features.Given as goal

abbrev pub decreases-loop-rest : goal.decreases-loop-rest
decreases-loop-rest l = l.rest

abbrev pub invariant-loop-rest : goal.invariant-loop-rest
invariant-loop-rest l = Listed l.bits l.rest l.parts.items
