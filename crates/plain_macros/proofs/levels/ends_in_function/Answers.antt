use Rattle.std.proofs.Common.{◌∙◌, arith}
use Rattle.plain_macros.specs.PlainTables.{table_of}
use Rattle.plain_macros.proofs.ItemLemmas.{last_at}
use Rattle.plain_macros.proofs.levels.ends_in_function.Goals as goal

pub returns-in-len1-up : goal.returns-in-len1-up
returns-in-len1-up c =
    c.is_function_name.ensures
    ∙ last_at (table_of c.args.table.now) c.args.items.now c.last-item.result (omega arith) c.last-item.is
