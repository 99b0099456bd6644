use Rattle.quick_form.proofs.LexingItems.{renamed_reads_lem}
use Rattle.quick_form.proofs.renamed_reads.Goals as goal

pub returns : goal.returns
returns c = renamed_reads_lem
