use Rattle.std.proofs.Common.{List, ap, ◌∙◌}
use Rattle.std.specs.Prelude.{is_some}
use Rattle.c_text.specs.Directives.{PlainMacro}
use Rattle.conditional.specs.Entries.{Entry, entries_of}
use Rattle.macro_table.specs.PlainDefinitions.{plain_definition}
use Rattle.macro_table.specs.MacroTables.{meaning_among}
use Rattle.macro_table.proofs.ClashLemmas.{holds_is_some}
use Rattle.macro_table.proofs.table.MacroTable.when_defined.Goals as goal

pub returns : goal.returns
returns c = λ on.
    c.in_ok-defined.ensures on
    ∙ holds_is_some on (entries_of plain_definition c.definitions.result.now)
    ∙ ap (λ (l : List (Entry PlainMacro)). is_some (meaning_among on l)) c.definitions.ensures
