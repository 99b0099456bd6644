use Rattle.std.specs.Prelude.{Some}
use Rattle.plain_macros.specs.PlainMeanings.{plain_meaning}
use Rattle.plain_macros.specs.PlainTables.{table_of}
use Rattle.plain_macros.proofs.TableLemmas.{at_each_name}
use Rattle.plain_macros.proofs.table.Table.define.Goals as goal

pub returns : goal.returns
unfolding table_of
returns c =
    let put = c.in_ok-insert.ensures.updates in
    at_each_name (λ k. k.items) plain_meaning c.args.name.items c.args.self.now.meanings.entries c.insert.new.self.entries (Some c.args.meaning) put.1 put.3
