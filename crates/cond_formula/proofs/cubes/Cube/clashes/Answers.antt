use Rattle.std.proofs.Common.{arith}
use Rattle.cond_formula.proofs.CubeLaws.{clash_from_bits, bits_from_clash, some_from_test, test_from_some}
use Rattle.cond_formula.proofs.cubes.Cube.clashes.Goals as goal

pub returns : goal.returns
returns c =
    let cube = c.args.self.now in
    let other = c.args.other.now in (
      λ holds. clash_from_bits cube.mask cube.value other.mask other.value (omega arith) (some_from_test _ holds),
      λ clash. test_from_some _ (bits_from_clash cube.mask cube.value other.mask other.value clash),
    )
