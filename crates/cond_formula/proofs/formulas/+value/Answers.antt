use Rattle.std.proofs.Common.{arith}
use Rattle.std.proofs.lemmas.Bool.Decides.{nat_tests}
use Rattle.cond_formula.specs.Features.{has}
use Rattle.cond_formula.specs.ConditionLaws.{formula_kinds}
use Rattle.cond_formula.proofs.formulas.+value.Goals as goal

pub Formula::value-returns-else-feature-lt128 : goal.Formula::value-returns-else-feature-lt128
unfolding has
Formula::value-returns-else-feature-lt128 t c = grind (arith, nat_tests, formula_kinds)
