use Rattle.reduced_conditions.proofs.LiteralLaws.{without_is}
use Rattle.reduced_conditions.proofs.literals.without_bits.Goals as goal

pub returns : goal.returns
returns c = without_is c.args.a c.args.b
