use Rattle.core_numbers.proofs.Units.{bindings_need_no_numbers}
use Rattle.core_numbers.proofs.bindings_need_no_numbers.Goals as goal

pub returns : goal.returns
returns c = bindings_need_no_numbers c.counts_need_no_names.ensures c.sizes_bind_nothing.ensures
