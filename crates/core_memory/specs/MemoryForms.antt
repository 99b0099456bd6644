-- The plain forms of objects and memory, and what reading and writing do to one object.
use Rattle.std.specs.Prelude.{false, ◌&&◌, List, map, Option, None, option_map, if◌then◌else◌}
use Rattle.c_types.specs.Types.{PlainType, plain_type}
use Rattle.core_meaning.specs.Plain.{plain_layout}
use Rattle.core_meaning.specs.Values as plain
use Rattle.core_meaning.specs.Values.{is_scalar, type_at}
use Rattle.core_meaning.specs.Memory as plain_memory_form
use Rattle.core_meaning.specs.Memory.{unwritten, is_there, value_in, cells_with}
use Rattle.core_meaning.specs.Run.{memory_of}
use Rattle.core_memory.specs.declared.memory.Object.{Object}
use Rattle.core_memory.specs.declared.memory.Memory.{Memory}
use Rattle.core_cells.specs.Forms.{Inner, plain_cells}
use Rattle.core_cells.specs.CellForms.{placed, by_paths}

abbrev pub plain_object : Object → plain_memory_form.Object
plain_object o = record { ty = plain_type o.ty.now; lives = o.lives; writable = o.writable; cells = plain_cells o.cells }

abbrev pub plain_memory : Memory → plain_memory_form.Memory
plain_memory m = memory_of (map plain_object m.objects.items)

-- the types of each struct's members
abbrev pub structs_of : Memory → List (List PlainType)
structs_of m = map plain_layout m.structs.now

abbrev pub ended : plain_memory_form.Object → plain_memory_form.Object
ended object = record object { lives = false; cells = unwritten }

-- the object with the cells that a value leaves, if that is defined
abbrev pub with_written : plain_memory_form.Object → plain.Path → plain.Value → Option plain_memory_form.Object
with_written object path v = option_map (λ cells. record object { cells = cells }) (cells_with object.cells path v)

-- the object with the cells that are left with a value below some steps
abbrev pub with_placed : plain_memory_form.Object → List plain.Step → plain.Value → Inner → plain_memory_form.Object
with_placed object steps v f = record object { cells = by_paths (placed steps v f) }

module _ (structs : List (List PlainType)) where
  -- what is read in an object at a path, if that is defined
  abbrev pub object_value : plain_memory_form.Object → plain.Path → Option plain.Value
  object_value object path =
      if is_there structs object path then value_in (is_scalar (type_at structs object.ty path)) object.cells path else None

  -- the object with a value written at a path, if that is defined
  abbrev pub object_with : plain_memory_form.Object → plain.Path → plain.Value → Option plain_memory_form.Object
  object_with object path v =
      if is_there structs object path && object.writable
      then with_written object path v
      else None
