use Rattle.run_pairs.proofs.WorkedTexts.{worked_texts_lem}
use Rattle.run_pairs.proofs.worked_texts.Goals as goal

pub returns : goal.returns
returns c = worked_texts_lem
