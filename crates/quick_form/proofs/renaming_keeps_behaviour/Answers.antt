use Rattle.quick_form.proofs.Behaviour.{renaming_keeps_behaviour_lem}
use Rattle.quick_form.proofs.renaming_keeps_behaviour.Goals as goal

pub returns : goal.returns
returns c = renaming_keeps_behaviour_lem c.renamed_reads.ensures
