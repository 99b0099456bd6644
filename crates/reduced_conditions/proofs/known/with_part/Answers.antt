use Rattle.cond_formula.specs.Conditions.{condition_of, value}
use Rattle.reduced_conditions.proofs.PartLemmas.{said_already}
use Rattle.reduced_conditions.proofs.known.with_part.Goals as goal

pub returns-then-is_known-clause-same : goal.returns-then-is_known-clause-same
returns-then-is_known-clause-same c = λ on is.
    said_already (value on (condition_of c.args.kept)) (value on (condition_of c.args.part.now)) (c.is_known.ensures c.if-is_known.true on is)
