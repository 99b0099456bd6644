use Rattle.project_sizes.proofs.Files.{few-files}
use Rattle.project_sizes.proofs.projects_have_few_files.Goals as goal

pub returns : goal.returns
returns c = few-files
