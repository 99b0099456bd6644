-- The members so far of a struct, without pointers, room in memory and the order of maps.
use Rattle.std.specs.Prelude.{map}
use Rattle.core_meaning.specs.UnitNames as spec
use Rattle.c_types.specs.Tags.{plain_member}
use Rattle.plain_scope.specs.PlainScope.{entry_of}
use Rattle.plain_structs.specs.declared.members.Members.{Members}

abbrev pub plain_members : Members → spec.Members
plain_members known = record { members = map plain_member known.members.items; numbers = entry_of known.numbers; scalars = known.scalars }
