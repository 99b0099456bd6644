-- Types of parts, and where pointers stand, in plain form.
use Rattle.std.specs.Prelude.{Option, Some, None, if◌then◌else◌}
use Rattle.c_types.specs.declared.types.CType.{CType}
use Rattle.c_types.specs.Types.{PlainType, void, plain_type}
use Rattle.core_meaning.specs.Values as plain
use Rattle.core_meaning.specs.Memory.{zero_of}
use Rattle.core_cells.specs.declared.parts.Stand.{Stand}
use Rattle.core_cells.specs.Forms.{plain_path}

-- none is `void`
abbrev pub type_or_void : Option CType → PlainType
type_or_void (Some t) = plain_type t
type_or_void None = void

abbrev pub zero_if_scalar : PlainType → Option plain.Scalar
zero_if_scalar t = if plain.is_scalar t then Some (zero_of t) else None

abbrev pub plain_stand : Stand → plain.Stand
plain_stand stand = record { array = plain_path stand.array.now; alone = stand.alone; count = stand.count; index = stand.index }
