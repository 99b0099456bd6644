use Rattle.file_walks.proofs.Parts.{part_of, lines-are_read}
use Rattle.file_walks.proofs.lines_have_parts.Goals as goal

pub returns : goal.returns
returns c = λ lines. record { part = part_of lines; is_read = lines-are_read lines }
