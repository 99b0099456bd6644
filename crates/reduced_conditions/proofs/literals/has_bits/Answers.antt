use Rattle.reduced_conditions.proofs.LiteralLaws.{has_same}
use Rattle.reduced_conditions.proofs.literals.has_bits.Goals as goal

pub returns : goal.returns
returns c = λ same feature is. has_same c.args.a c.args.b feature same is
