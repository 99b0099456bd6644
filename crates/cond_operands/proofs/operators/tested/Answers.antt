use Rattle.std.proofs.lemmas.Result.{IfOk-weaker}
use Rattle.operand_types.specs.Operators.{tested_type}
use Rattle.cond_operands.proofs.operators.tested.Goals as goal

pub returns : goal.returns
returns c = IfOk-weaker c.judged.result _ _ (λ z judges first on x sx. judges (tested_type first) (record { maps = λ o r answers. answers first }) on x sx) c.judged.ensures
