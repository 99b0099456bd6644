use Rattle.class_edits.proofs.Members.{are-renamed}
use Rattle.class_edits.proofs.laws.listed_are_renamed.Goals as goal

pub returns : goal.returns
returns c = are-renamed
