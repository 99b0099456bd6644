use Rattle.std.proofs.Common.{map, take, true}
use Rattle.std.specs.List.{AllZip}
use Rattle.c_types.specs.Tags.{plain_member}
use Rattle.c_types.specs.Compatible.{MemberAgrees}
use Rattle.c_types.specs.Pairs.{Notes}
use Rattle.c_types.proofs.pairs.members_agree.Given as goal

abbrev pub invariant-loop-i : goal.invariant-loop-i
invariant-loop-i l =
    Notes (λ pairs. AllZip (MemberAgrees pairs) (take l.i (map plain_member l.a)) (take l.i (map plain_member l.b))) l.initial.found.items l.found.items true
