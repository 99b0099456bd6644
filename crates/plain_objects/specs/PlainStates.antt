-- What declarations leave in a unit, without pointers, room in memory and the order of maps.
use Rattle.std.specs.Prelude.{ℕ, List, map, option_map, Vec}
use Rattle.std.specs.HashMap.{HashMap}
use Rattle.std.specs.declared.alloc.Global.{Global}
use Rattle.core_meaning.specs.Entities as entities
use Rattle.core_meaning.specs.Entities.{Table}
use Rattle.core_meaning.specs.UnitNames as spec
use Rattle.core_meaning.specs.UnitNames.{by_static, by_extern, by_none}
use Rattle.plain_scope.specs.declared.entities.FileName.{FileName}
use Rattle.plain_scope.specs.PlainScope.{entry_of, plain_file_name}
use Rattle.plain_scope.specs.PlainScope.{plain_scope}
use Rattle.plain_link.specs.PlainDefinitions.{plain_defined}
use Rattle.plain_objects.specs.declared.definitions.Unit.{Unit}
use Rattle.plain_objects.specs.declared.names.Storage.{Storage}
use Rattle.plain_objects.specs.declared.names.Storage.TheVariants.{Static, Extern, Absent}

abbrev pub plain_storage : Storage → spec.Storage
plain_storage Static = by_static
plain_storage Extern = by_extern
plain_storage Absent = by_none

abbrev pub plain_names : {S : Type 0} → HashMap (Vec ℕ Global) FileName S → Table entities.FileName
plain_names names name = option_map plain_file_name (entry_of names name)

abbrev pub plain_order : List (Vec ℕ Global) → List (List ℕ)
plain_order order = map (λ (name : Vec ℕ Global). name.items) order

-- a unit up to a place, where so many globals are numbered before the texts
abbrev pub plain_state : ℕ → Unit → spec.UnitState
plain_state globals unit = record { scope = plain_scope unit.scope; defined = map (plain_defined globals) unit.defined.items }
