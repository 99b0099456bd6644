use Rattle.std.proofs.Common.{◌*ℤ◌}
use Rattle.std.specs.Int.{w128}
use Rattle.std.proofs.lemmas.Int.{to_z-of_z}
use Rattle.c_types.proofs.arithmetic.exact_product.Goals as goal

pub returns : goal.returns
returns c =
    rw (to_z-of_z w128 c.args.a c.ranges.a, to_z-of_z w128 c.args.b c.ranges.b, to_z-of_z w128 (c.args.a *ℤ c.args.b) c.requires)
