use Rattle.std.proofs.lemmas.Result.{IfOk-weaker}
use Rattle.operand_types.specs.Operators.{indexed_type}
use Rattle.cond_operands.proofs.pairs.indexed.Goals as goal

pub returns-clause-shows : goal.returns-clause-shows
returns-clause-shows g c =
    IfOk-weaker c.crossed.result _ _ (λ z crosses bracket n admitted x y sx sy. crosses (indexed_type bracket) (record { computes = λ a b r answers. answers bracket }) n admitted x y sx sy) c.crossed.ensures.shows
