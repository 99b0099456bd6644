use Rattle.cond_sizes.proofs.Nameless.{counts_need_no_names_lem}
use Rattle.cond_sizes.proofs.laws.counts_need_no_names.Goals as goal

pub returns : goal.returns
returns c = counts_need_no_names_lem
