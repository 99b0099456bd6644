-- What is answered to questions of the tables.
use Rattle.std.specs.Prelude.{ℕ, Option, Some, None, if◌then◌else◌}
use Rattle.type_tables.specs.Tables.{Tables}

-- a struct where it is declared
abbrev pub where_declared : Tables → Option ℕ → Option ℕ
where_declared t None = None
where_declared t (Some number) = if t.declared number then Some number else None
