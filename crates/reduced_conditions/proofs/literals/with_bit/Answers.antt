use Rattle.std.proofs.lemmas.Nat.Bits.{bit_at_set_same, bit_at_set_other}
use Rattle.std.specs.Int.{w128}
use Rattle.reduced_conditions.proofs.literals.with_bit.Goals as goal

pub returns-clause-set : goal.returns-clause-set
returns-clause-set c = bit_at_set_same w128 c.args.bits c.args.feature c.requires

pub returns-clause-kept : goal.returns-clause-kept
returns-clause-kept c = λ other apart. bit_at_set_other w128 c.args.bits c.args.feature c.requires other apart
