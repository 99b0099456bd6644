use Rattle.std.proofs.Common.{ap, ◌∙◌, arith, rules}
use Rattle.std.proofs.lemmas.Nat.Bits.{bit_at-trailing_zeros}
use Rattle.std.specs.Int.{bit_at, w128}
use Rattle.reduced_conditions.proofs.literals.lowest.Goals as goal

pub returns-clause-fits : goal.returns-clause-fits
returns-clause-fits c =
    let lowest = bit_at-trailing_zeros w128 c.args.bits c.requires (search rules) in
    omega (arith, lowest.0)

pub returns-clause-set : goal.returns-clause-set
returns-clause-set c =
    let lowest = bit_at-trailing_zeros w128 c.args.bits c.requires (search rules) in
    ap (bit_at c.args.bits) (omega (arith, lowest.0)) ∙ lowest.1
