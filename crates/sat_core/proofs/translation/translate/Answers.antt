use Rattle.std.proofs.Common.{arith}
use Rattle.std.proofs.lemmas.Grind.{common_steps}
use Rattle.cond_formula.specs.Conditions.{condition_of}
use Rattle.sat_core.proofs.NumberingLaws.{numbered_translation}
use Rattle.sat_core.proofs.translation.translate.Goals as goal

pub returns : goal.returns
returns c =
    numbered_translation c.args.features (condition_of c.args.formula.now) _ _ c.requires (grind (arith, common_steps)) (grind (arith, common_steps))
