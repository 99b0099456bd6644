-- The value of an object.
use Rattle.std.specs.Prelude.{true, List, if◌then◌else◌}
use Rattle.c_text.specs.Token.{PlainToken}
use Rattle.c_types.specs.Types.{PlainType}
use Rattle.core_meaning.specs.declared.refusals.TypeKind.TheVariants.{Incomplete}
use Rattle.core_meaning.specs.Program.{read, PlainPlace}
use Rattle.core_meaning.specs.Checking.{Checked, refused, give}
use Rattle.core_meaning.specs.Entities.{Struct}
use Rattle.core_meaning.specs.Typing.{Typed, typed, is_complete, object, of_object, loaded_from}

abbrev pub read_object : List Struct → PlainType → PlainPlace → PlainToken → Checked Typed
read_object structs ty place at = if is_complete structs ty then give (typed ty (read place)) else refused Incomplete at

-- the value of an object of a type at a place, refused at this token
abbrev pub load_object : List Struct → PlainType → PlainPlace → PlainToken → Checked Typed
load_object structs ty place at = loaded_from structs (of_object at ty place true) ty (object place true)
