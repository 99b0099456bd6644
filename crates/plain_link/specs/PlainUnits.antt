-- What units leave for linking, without pointers, room in memory and the order of maps.
use Rattle.std.specs.Prelude.{ℕ, List, map, option_map, Vec}
use Rattle.std.specs.HashMap.{HashMap, keys}
use Rattle.std.specs.declared.alloc.Global.{Global}
use Rattle.core_meaning.specs.Entities as spec
use Rattle.core_meaning.specs.Entities.{Table}
use Rattle.core_meaning.specs.Linking.{Unit, Units}
use Rattle.plain_scope.specs.PlainScope.{entry_of, plain_file_name, plain_struct, uses_of}
use Rattle.plain_scope.specs.declared.entities.FileName.{FileName}
use Rattle.plain_scope.specs.declared.entities.Struct.{Struct}
use Rattle.plain_link.specs.PlainDefinitions.{plain_defined}
use Rattle.plain_link.specs.declared.left.Left.{Left}

abbrev pub plain_names : {S : Type 0} → HashMap (Vec ℕ Global) FileName S → Table spec.FileName
plain_names names name = option_map plain_file_name (entry_of names name)

-- what a unit leaves, where so many globals are numbered before the texts
abbrev pub plain_unit : ℕ → Left → Unit
plain_unit globals left = record {
  names = plain_names left.names;
  order = map (λ (name : Vec ℕ Global). name.items) left.order.items;
  defined = map (plain_defined globals) left.defined.list.items;
  uses = uses_of left.used;
}

-- units and their structs, where so many globals are numbered before the texts
abbrev pub plain_units : ℕ → List Left → List Struct → Units
plain_units globals units structs = record { units = map (plain_unit globals) units; structs = map plain_struct structs }

-- the keys of a map by their bytes
abbrev pub key_texts : {X S : Type 0} → HashMap (Vec ℕ Global) X S → List (List ℕ)
key_texts table = map (λ (key : Vec ℕ Global). key.items) (keys table)
