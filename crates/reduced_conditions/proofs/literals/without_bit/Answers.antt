use Rattle.std.proofs.Common.{rules}
use Rattle.reduced_conditions.proofs.LiteralLaws.{cleared_less, cleared_other}
use Rattle.std.proofs.lemmas.Nat.Bits.{bit_at_clear_same}
use Rattle.std.specs.Int.{w128}
use Rattle.reduced_conditions.proofs.literals.without_bit.Goals as goal

pub returns-clause-smaller : goal.returns-clause-smaller
returns-clause-smaller c = cleared_less c.args.bits c.args.feature c.requires.fits c.requires.set

pub returns-clause-gone : goal.returns-clause-gone
returns-clause-gone c = bit_at_clear_same w128 c.args.bits c.args.feature c.requires.fits

pub returns-clause-kept : goal.returns-clause-kept
returns-clause-kept c = λ other apart. cleared_other c.args.bits c.args.feature other (search rules) c.requires.fits apart
