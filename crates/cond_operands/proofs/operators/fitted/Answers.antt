use Rattle.std.proofs.lemmas.Result.{IfOk-weaker}
use Rattle.c_types.specs.Types.{plain_type}
use Rattle.operand_types.specs.Operators.{fitted_type}
use Rattle.cond_operands.proofs.operators.fitted.Goals as goal

pub returns : goal.returns
returns c = IfOk-weaker c.judged.result _ _ (λ z judges first on x sx. judges (fitted_type first (plain_type c.args.ty.now)) (record { maps = λ o r answers. answers first }) on x sx) c.judged.ensures
