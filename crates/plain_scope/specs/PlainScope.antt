-- What is visible in a unit, without pointers, room in memory and the order of maps.
use Rattle.std.specs.Prelude.{ℕ, Bool, List, map, reverse, Option, option_map, is_some, Vec}
use Rattle.std.specs.HashMap.{HashMap, get_by}
use Rattle.std.specs.Str.{bytes_eq}
use Rattle.std.specs.declared.alloc.Global.{Global}
use Rattle.c_types.specs.Types.{plain_type}
use Rattle.c_types.specs.Tags.{plain_member}
use Rattle.core_meaning.specs.Entities as spec
use Rattle.core_meaning.specs.Entities.{Table, variable, function}
use Rattle.plain_scope.specs.declared.entities.Struct.{Struct}
use Rattle.plain_scope.specs.declared.entities.Local.{Local}
use Rattle.plain_scope.specs.declared.entities.Signature.{Signature}
use Rattle.plain_scope.specs.declared.entities.Sort.{Sort}
use Rattle.plain_scope.specs.declared.entities.Sort.TheVariants.{Variable, Function}
use Rattle.plain_scope.specs.declared.entities.FileName.{FileName}
use Rattle.plain_scope.specs.declared.entities.Scope.{Scope}
use Rattle.plain_scope.specs.declared.entities.Used.{Used}

-- what a map has for a name
abbrev pub entry_of : {X S : Type 0} → HashMap (Vec ℕ Global) X S → List ℕ → Option X
entry_of map name = get_by (λ key. bytes_eq name key.items) map

abbrev pub plain_struct : Struct → spec.Struct
plain_struct s = record {
  name = s.name.items;
  members = map plain_member s.members.items;
  numbers = entry_of s.numbers;
  complete = s.complete;
  scalars = s.scalars;
}

abbrev pub plain_local : Local → spec.Local
plain_local x = record { slot = x.slot; ty = plain_type x.ty }

abbrev pub plain_signature : Signature → spec.Signature
plain_signature f = record { result = plain_type f.result; parameters = map plain_type f.parameters.items }

abbrev pub plain_sort : Sort → spec.Sort
plain_sort (Variable ty) = variable (plain_type ty)
plain_sort (Function f) = function (plain_signature f)

abbrev pub plain_file_name : FileName → spec.FileName
plain_file_name x = record { sort = plain_sort x.sort; internal = x.internal }

abbrev pub plain_block : {S : Type 0} → HashMap (Vec ℕ Global) Local S → Table spec.Local
plain_block block name = option_map plain_local (entry_of block name)

-- the innermost block is the last
abbrev pub plain_scope : Scope → spec.Scope
plain_scope scope = record {
  structs = map plain_struct scope.structs.items;
  tags = entry_of scope.tags;
  file_names = λ name. option_map plain_file_name (entry_of scope.file_names name);
  order = map (λ (name : Vec ℕ Global). name.items) scope.order.items;
  blocks = reverse (map plain_block scope.blocks.items);
  numbers = record {
    globals = entry_of scope.numbers.now.globals;
    functions = entry_of scope.numbers.now.functions;
    literals = entry_of scope.literals.now;
  };
}

-- whether a name is among those that are used
abbrev pub uses_of : Used → List ℕ → Bool
uses_of used name = is_some (entry_of used.names name)
