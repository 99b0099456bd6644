-- The structs of tables as a configuration sees them, by their numbers, and which of them are alike.
use Rattle.std.specs.Prelude.{◌↔◌, ℕ, Bool, List, [], map, Option, Some, None, slice_get, get_or, IsTrue}
use Rattle.cond_formula.specs.declared.formulas.Formula.{Formula, False}
use Rattle.cond_formula.specs.Conditions.{Condition, condition_of, value}
use Rattle.cond_formula.specs.Features.{has}
use Rattle.c_types.specs.Types.{PlainType}
use Rattle.c_types.specs.Tags.{PlainTag}
use Rattle.c_types.specs.Compatible.{Compatible}
use Rattle.type_tables.specs.Seen.{is_complete, members_of}
use Rattle.type_tables.specs.declared.entries.CondStruct.{CondStruct}
use Rattle.type_tables.specs.declared.tables.Tables.{Tables}
use Rattle.cond_compatible.specs.declared.alike.Row.{Row}
use Rattle.cond_compatible.specs.declared.alike.AlikeStructs.{AlikeStructs}
use Rattle.cond_compatible.specs.Depths.{types_agree}

-- a struct with the tag that it has where it is declared
abbrev pub tag_seen : (ℕ → Bool) → CondStruct → PlainTag
tag_seen on s = record { name = s.tag.items; members = members_of on (Some s); complete = is_complete on (Some s) }

abbrev pub tags_seen : (ℕ → Bool) → Tables → List PlainTag
tags_seen on tables = map (tag_seen on) tables.structs.items

abbrev pub TypesAgree : (ℕ → Bool) → Tables → PlainType → PlainType → Type 0
TypesAgree on tables a b = Compatible (tags_seen on tables) (tags_seen on tables) a b

-- what a row says of a place
abbrev pub said_at : (ℕ → Bool) → List Formula → ℕ → Bool
said_at on row place = value on (condition_of (get_or row place False))

abbrev pub row_of : Option Row → List Formula
row_of None = []
row_of (Some row) = row.conditions.items

-- the structs that are alike, as rows say it
abbrev pub said_in : (ℕ → Bool) → List Row → ℕ → ℕ → Bool
said_in on rows i j = said_at on (row_of (slice_get rows i)) j

abbrev pub said_alike : (ℕ → Bool) → AlikeStructs → ℕ → ℕ → Bool
said_alike on alike = said_in on alike.rows.items

-- Types are compatible where they agree but for structs of which this says that they are alike.
abbrev pub Tells : Condition → Tables → AlikeStructs → Type 0
Tells admitted tables alike = (c : List Bool) (a b : PlainType) → IsTrue (value (has c) admitted)
    → IsTrue (types_agree (said_alike (has c) alike) a b) ↔ TypesAgree (has c) tables a b
