-- The macros that are defined under conditions, and what `#define` and `#undef` make of them in each configuration
-- (ISO/IEC 9899:2011, 6.10.3).
use Rattle.std.specs.Prelude.{ℕ, Bool, false, not, ◌||◌, List, [], codes, Option, Some, None}
use Rattle.std.specs.Option.{option_map}
use Rattle.std.specs.List.{list_any}
use Rattle.std.specs.Str.{bytes_eq}
use Rattle.std.specs.HashMap.{get_by}
use Rattle.c_names.specs.Names.{is_keyword}
use Rattle.c_text.specs.Directives.{PlainMacro, has_repetition, is_barred, predefined_names}
use Rattle.c_text.specs.Macros.{Meaning, Table}
use Rattle.c_text.specs.Preprocessing.{meaning, put, same_meaning}
use Rattle.conditional.specs.declared.lists.CondList.{CondList}
use Rattle.conditional.specs.Entries.{Entry, first, listed, seen}
use Rattle.macro_table.specs.declared.definitions.Definition.{Definition}
use Rattle.macro_table.specs.PlainDefinitions.{plain_definition}
use Rattle.macro_table.specs.declared.table.MacroTable.{MacroTable}

-- ---- one configuration

-- what the name of a macro stands for
abbrev pub macro_meaning : PlainMacro → Meaning
macro_meaning m = meaning m m.params

-- a second definition must mean the same as the first
abbrev pub clashes : Option Meaning → Meaning → Bool
clashes None new = false
clashes (Some old) new = not (same_meaning old new)

abbrev pub unless_defined : Table → List ℕ → Option Meaning → Meaning → Table
unless_defined table name None new = put table name (Some new)
unless_defined table name (Some old) new = table

-- a table after a `#define`: the first definition stays
abbrev pub with_macro : Table → PlainMacro → Table
with_macro table m = unless_defined table m.name (table m.name) (macro_meaning m)

-- a table after an `#undef`
abbrev pub without_name : Table → List ℕ → Table
without_name table name = put table name None

-- a name that no macro may have
abbrev pub is_barred_name : List ℕ → Bool
is_barred_name name = is_keyword name || bytes_eq name (codes "defined") || list_any (bytes_eq name) predefined_names

abbrev pub repeats : Option (List (List ℕ)) → Bool
repeats None = false
repeats (Some params) = has_repetition params

-- a macro that no `#define` may give, whatever is defined
abbrev pub is_barred_macro : PlainMacro → Bool
is_barred_macro m = is_barred_name m.name || list_any is_barred m.body || repeats m.params

-- ---- all configurations

-- the first definition that holds counts
abbrev pub meaning_among : (ℕ → Bool) → List (Entry PlainMacro) → Option Meaning
meaning_among on definitions = option_map macro_meaning (first (seen on definitions))

abbrev pub entries_in : Option (CondList Definition) → List (Entry PlainMacro)
entries_in None = []
entries_in (Some list) = listed plain_definition list

abbrev pub found_in : {N : Type 0} → (N → Option (CondList Definition)) → Option N → List (Entry PlainMacro)
found_in get None = []
found_in get (Some names) = entries_in (get names)

-- the definitions of a name, in the order in which they count
unfoldable pub definitions_of : MacroTable → List ℕ → List (Entry PlainMacro)
definitions_of table name = found_in (get_by (λ key. bytes_eq name key.items)) table.names

-- the table of a configuration
abbrev pub table_at : (ℕ → Bool) → MacroTable → Table
table_at on table name = meaning_among on (definitions_of table name)
