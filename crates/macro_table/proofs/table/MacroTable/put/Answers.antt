use Rattle.std.specs.Prelude.{Some}
use Rattle.macro_table.specs.MacroTables.{definitions_of, entries_in}
use Rattle.macro_table.proofs.TableLemmas.{at_each_name}
use Rattle.macro_table.proofs.table.MacroTable.put.Goals as goal

pub returns-in_ok-insert-in-Some-clause-put : goal.returns-in_ok-insert-in-Some-clause-put
unfolding definitions_of
returns-in_ok-insert-in-Some-clause-put c = λ other.
    let put = c.in_ok-insert-in-Some.ensures.updates in
    let step = at_each_name (λ k. k.items) entries_in c.in_ok-key.key.items c.in-Some.names.entries c.insert.new.self.entries (Some c.args.list) put.1 put.3 other in
    let named = rw c.in_ok-key.ensures.items at step in
    rw c.in-Some.is named
