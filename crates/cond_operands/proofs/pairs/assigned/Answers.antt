use Rattle.std.proofs.lemmas.Result.{IfOk-weaker}
use Rattle.c_text.specs.Token.{plain_token}
use Rattle.operand_types.specs.Operators.{assigned_type}
use Rattle.cond_operands.proofs.pairs.assigned.Goals as goal

pub returns-clause-shows : goal.returns-clause-shows
returns-clause-shows g c =
    IfOk-weaker c.crossed.result _ _ (λ z crosses n admitted x y sx sy. crosses (assigned_type (plain_token c.args.sign.now)) (record { computes = λ a b r answers. answers }) n admitted x y sx sy) c.crossed.ensures.shows
