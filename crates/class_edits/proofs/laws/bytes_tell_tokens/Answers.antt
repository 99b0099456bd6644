use Rattle.class_edits.proofs.Standing.{bytes-tell}
use Rattle.class_edits.proofs.laws.bytes_tell_tokens.Goals as goal

pub returns : goal.returns
returns c = bytes-tell c.lines_are_one.ensures
