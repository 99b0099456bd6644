use Rattle.std.specs.Prelude.{Some}
use Rattle.macro_table.specs.MacroTables.{entries_in}
use Rattle.macro_table.proofs.TableLemmas.{at_each_name}
use Rattle.macro_table.proofs.table.one_name.Goals as goal

pub returns : goal.returns
returns c = λ other.
    let put = c.in_ok-insert.ensures.updates in
    let step = at_each_name (λ k. k.items) entries_in c.args.name.items c.new-names.result.entries c.insert.new.self.entries (Some c.args.list) put.1 put.3 other in
    rw c.new-names.ensures.empty at step
