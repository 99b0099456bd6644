use Rattle.std.proofs.Common.{ap, ◌∙◌}
use Rattle.std.specs.Option.{option_map}
use Rattle.plain_macros.specs.PlainMeanings.{plain_meaning}
use Rattle.plain_macros.proofs.TableLemmas.{read_through}
use Rattle.plain_macros.specs.PlainTables.{table_of}
use Rattle.plain_macros.proofs.table.Table.get.Goals as goal

pub returns : goal.returns
unfolding table_of
returns c = read_through plain_meaning c.get.result ∙ ap (option_map plain_meaning) c.get.ensures.value
