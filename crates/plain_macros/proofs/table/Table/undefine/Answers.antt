use Rattle.std.specs.Prelude.{None}
use Rattle.plain_macros.specs.PlainMeanings.{plain_meaning}
use Rattle.plain_macros.specs.PlainTables.{table_of}
use Rattle.plain_macros.proofs.TableLemmas.{at_each_name}
use Rattle.plain_macros.proofs.table.Table.undefine.Goals as goal

pub returns : goal.returns
unfolding table_of
returns c =
    let put = c.remove.ensures.updates in
    at_each_name (λ k. k.items) plain_meaning c.args.name.now c.args.self.now.meanings.entries c.remove.new.self.entries None put.1 put.3
