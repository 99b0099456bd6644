use Rattle.cond_formula.proofs.ReadingLaws.{one_reading}
use Rattle.cond_formula.proofs.laws.expression_texts_have_one_meaning.Goals as goal

pub returns : goal.returns
returns c = one_reading
