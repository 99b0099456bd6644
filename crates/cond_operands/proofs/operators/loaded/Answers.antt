use Rattle.std.proofs.lemmas.Result.{IfOk-weaker}
use Rattle.operand_types.specs.Operators.{loaded_type}
use Rattle.cond_operands.proofs.operators.loaded.Goals as goal

pub returns : goal.returns
returns c = IfOk-weaker c.judged.result _ _ (λ z judges at on x sx. judges (loaded_type at) (record { maps = λ o r answers. answers at }) on x sx) c.judged.ensures
