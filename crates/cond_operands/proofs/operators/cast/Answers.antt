use Rattle.std.proofs.lemmas.Result.{IfOk-weaker}
use Rattle.c_types.specs.Types.{plain_type}
use Rattle.operand_types.specs.Operators.{cast_type}
use Rattle.cond_operands.proofs.operators.cast.Goals as goal

pub returns : goal.returns
returns c =
    IfOk-weaker c.judged.result _ _ (λ z judges h bracket on x sx. judges (cast_type bracket (plain_type c.args.ty.now)) (record { maps = λ o r answers. answers h bracket }) on x sx) c.judged.ensures
