use Rattle.quick_lines.proofs.LinesSpelled.{texts_are_spelled_lem}
use Rattle.quick_lines.proofs.texts_are_spelled.Goals as goal

pub returns : goal.returns
returns c = texts_are_spelled_lem
