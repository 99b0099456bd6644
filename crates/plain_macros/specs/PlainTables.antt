use Rattle.std.specs.Option.{option_map}
use Rattle.std.specs.HashMap.{get_by}
use Rattle.std.specs.Str.{bytes_eq}
use Rattle.c_text.specs.Macros as spec
use Rattle.plain_macros.specs.PlainMeanings.{plain_meaning}
use Rattle.plain_macros.specs.declared.table.Table.{Table}

-- a table as a function from names to what they stand for
unfoldable pub table_of : Table → spec.Table
table_of table name = option_map plain_meaning (get_by (λ key. bytes_eq name key.items) table.meanings)
