use Rattle.std.proofs.Common.{List, Bool, eq-eqb, subst, sym, arith}
use Rattle.std.proofs.lemmas.Bool.{eqb-true}
use Rattle.cond_formula.specs.Cubes.{Agrees}
use Rattle.cond_formula.proofs.CubeLaws.{agrees_from_bits, bits_from_agrees}
use Rattle.cond_formula.proofs.cubes.Cube.holds.Goals as goal

pub returns : goal.returns
returns c =
    let cube = c.args.self.now in
    let P : List Bool → Type 0 = λ on. Agrees cube.mask cube.value on in (
      λ holds. subst P c.c.view_is (agrees_from_bits c.c.inside.bits cube.mask cube.value (eqb-true _ _ holds)),
      λ agrees. eq-eqb _ _ (bits_from_agrees c.c.inside.bits cube.mask cube.value (omega arith) (omega arith) cube.inside (subst P (sym c.c.view_is) agrees)),
    )
