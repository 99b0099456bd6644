use Rattle.class_edits.proofs.Members.{class-renamed}
use Rattle.class_edits.proofs.laws.listed_classes_are_renamed.Goals as goal

pub returns : goal.returns
returns c = class-renamed c.listed_are_renamed.ensures
