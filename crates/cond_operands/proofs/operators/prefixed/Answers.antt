use Rattle.std.proofs.lemmas.Result.{IfOk-weaker}
use Rattle.c_text.specs.Token.{plain_token}
use Rattle.operand_types.specs.Operators.{prefixed_type}
use Rattle.cond_operands.proofs.operators.prefixed.Goals as goal

pub returns : goal.returns
returns c = IfOk-weaker c.judged.result _ _ (λ z judges on x sx. judges (prefixed_type (plain_token c.args.sign.now)) (record { maps = λ o r answers. answers }) on x sx) c.judged.ensures
