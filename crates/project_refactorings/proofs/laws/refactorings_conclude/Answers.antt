use Rattle.project_refactorings.proofs.Concluding.{refactoring_concludes}
use Rattle.project_refactorings.proofs.laws.refactorings_conclude.Goals as goal

pub returns : goal.returns
returns g c has_tasks alloc q held = refactoring_concludes held c.no_file_is_left_out.ensures alloc g.R.Refactoring.command has_tasks q
