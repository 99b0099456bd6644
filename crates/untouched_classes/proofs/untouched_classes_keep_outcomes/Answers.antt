use Rattle.untouched_classes.proofs.Touched.{outcomes_kept}
use Rattle.untouched_classes.proofs.untouched_classes_keep_outcomes.Goals as goal

pub returns : goal.returns
returns c = outcomes_kept c.untouched_units_keep_outcomes.ensures
