use Rattle.std.proofs.Common.{◌≡◌, map, take}
use Rattle.c_types.specs.Types.{plain_type}
use Rattle.c_types.specs.Tags.{plain_member}
use Rattle.plain_program.proofs.structs.member_types.Given as goal

abbrev pub invariant-loop-member : goal.invariant-loop-member
invariant-loop-member l = map plain_type l.types.items ≡ map (λ m. m.ty) (map plain_member (take l.member-index l.members))
