use Rattle.plain_macros.specs.PlainTables.{table_of}
use Rattle.plain_macros.proofs.table.Table.new.Goals as goal

pub returns : goal.returns
unfolding table_of
returns c = λ name. rw c.new.ensures.empty
