use Rattle.project_file.proofs.OneProject.{projects_alike}
use Rattle.project_file.proofs.laws.projects_are_alike.Goals as goal

pub returns : goal.returns
returns c = projects_alike c.tree_is_one.ensures
