use Rattle.quick_form.proofs.Growth.{runs_grow_lem}
use Rattle.quick_form.proofs.runs_grow.Goals as goal

pub returns : goal.returns
returns c = runs_grow_lem
