use Rattle.std.proofs.Common.{◌≡◌, false, nat_lt, refl, arith}
use Rattle.std.proofs.lemmas.Bool.Decides.{nat_tests}
use Rattle.cond_formula.specs.Features.{has}
use Rattle.plain_pp.proofs.features.is_on.Goals as goal

pub returns-else-number-lt128 : goal.returns-else-number-lt128
unfolding has
returns-else-number-lt128 c =
    let e : nat_lt c.args.number 128 ≡ false = grind (arith, nat_tests) in
    rw e refl
