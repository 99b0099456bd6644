use Rattle.untouched_classes.proofs.Touched.{all_touched_or_not}
use Rattle.untouched_classes.proofs.classes_are_touched_or_not.Goals as goal

pub returns : goal.returns
returns c = all_touched_or_not c.touching_is_decided.ensures
