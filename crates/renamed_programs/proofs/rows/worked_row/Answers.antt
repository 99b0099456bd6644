use Rattle.renamed_programs.proofs.Examples.{object_renamed}
use Rattle.renamed_programs.proofs.rows.worked_row.Goals as goal

pub returns : goal.returns
returns c = object_renamed
