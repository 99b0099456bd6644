use Rattle.command_rename.proofs.Concluding.{renaming-has-tasks}
use Rattle.command_rename.proofs.laws.rename_concludes.Goals as goal

pub returns : goal.returns
returns c = c.refactorings_conclude.ensures (renaming-has-tasks c.projects_have_few_files.ensures c.found_are_named.ensures)
