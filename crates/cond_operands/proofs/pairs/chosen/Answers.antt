use Rattle.std.proofs.Common.{subst}
use Rattle.std.proofs.lemmas.Result.{IfOk-weaker}
use Rattle.cond_formula.specs.Features.{has}
use Rattle.operand_rules.specs.Rules.{chosen_rule}
use Rattle.cond_operands.specs.Operands.{ShowsOperand}
use Rattle.cond_operands.proofs.Choices.{same_choice}
use Rattle.cond_operands.proofs.pairs.chosen.Goals as goal

pub returns-clause-shows : goal.returns-clause-shows
returns-clause-shows g c =
    IfOk-weaker c.crossed.result _ _ (λ z crosses question n admitted x y number sx sy.
    subst (λ w. ShowsOperand (has n) w z) (same_choice question x y number) (crosses chosen_rule (record { computes = λ a b r answers. answers }) n admitted x y sx sy)) c.crossed.ensures.shows
