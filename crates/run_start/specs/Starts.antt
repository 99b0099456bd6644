-- The objects with which a run begins, by the parts of a program.
use Rattle.std.specs.Prelude.{ℕ, ◌+◌, List, length, map, drop, Vec}
use Rattle.std.specs.declared.alloc.Global.{Global as Allocator}
use Rattle.c_types.specs.Types.{PlainType, plain_type, char, array_of}
use Rattle.core_meaning.specs.declared.program.CoreProgram.{CoreProgram}
use Rattle.core_meaning.specs.declared.program.Global.{Global}
use Rattle.core_meaning.specs.Plain.{plain_constant_part, plain_global, plain_layout}
use Rattle.core_meaning.specs.Values.{Cells}
use Rattle.core_meaning.specs.Memory.{Object, zeros}
use Rattle.core_meaning.specs.Run.{first_cells}
use Rattle.core_meaning.specs.Run as running

-- the type of a text's array
abbrev pub text_type : List ℕ → PlainType
text_type bytes = array_of char (length bytes + 1)

abbrev pub text_types_of : CoreProgram → List PlainType
text_types_of p = map (λ (bytes : Vec ℕ Allocator). text_type bytes.items) p.literals.items

-- what the parts of a global from one on give, and zeros elsewhere
abbrev pub cells_behind : CoreProgram → Global → ℕ → Cells
cells_behind p g i =
    first_cells (map (plain_constant_part (length p.globals.items)) (drop i g.parts.items)) (zeros (map plain_layout p.structs.items) (plain_type g.ty))

abbrev pub global_object : CoreProgram → Global → Object
global_object p g = running.global_object (map plain_layout p.structs.items) (plain_global (length p.globals.items) g)

abbrev pub global_objects : CoreProgram → List Object
global_objects p = map (global_object p) p.globals.items

abbrev pub text_object : Vec ℕ Allocator → Object
text_object bytes = running.literal_object bytes.items

abbrev pub text_objects : CoreProgram → List Object
text_objects p = map text_object p.literals.items
