-- What is known where a unit ends and the next one begins, as a configuration sees it.
use Rattle.std.specs.Prelude.{◌≡◌, ℕ, ◌+◌, Bool, [], option_map}
use Rattle.conditional.specs.Entries.{seen, first, listed}
use Rattle.type_tables.specs.Forms.{file_name_form}
use Rattle.type_tables.specs.declared.entries.CondName.{CondName}
use Rattle.type_tables.specs.Tables.{Tables, Sort, object, declared_function, FileName, no_signature}
use Rattle.type_tables.specs.Steps.{no_tables, unit_begun}
use Rattle.cond_units.specs.Seen.{SeenUnit}

-- the number of a declaration of a function behind so many others
abbrev pub sort_behind : ℕ → Sort → Sort
sort_behind earlier (object ty) = object ty
sort_behind earlier (declared_function number) = declared_function (earlier + number)

abbrev pub name_behind : ℕ → FileName → FileName
name_behind earlier n = record { sort = sort_behind earlier n.sort; internal = n.internal }

-- an entry of the tables, its functions by their numbers behind so many others
pub record IsLeftAs (earlier : ℕ) (n left : CondName) : Type 0 where
  pub name : left.name.items ≡ n.name.items
  pub meanings : (on : ℕ → Bool) → first (seen on (listed file_name_form left.meanings)) ≡ option_map (name_behind earlier) (first (seen on (listed file_name_form n.meanings)))

-- no declaration of a function
abbrev pub without_functions : Tables → Tables
without_functions t = record t { signatures = λ n. no_signature; functions = 0 }

-- a unit begins, and the declarations of functions are its own
abbrev pub begun : SeenUnit → SeenUnit
begun s = record { tables = unit_begun (without_functions s.tables); defined = [] }

-- before the first unit
abbrev pub unit_before_all : SeenUnit
unit_before_all = record { tables = no_tables; defined = [] }
