use Rattle.std.proofs.Common.{◌≡◌, ◌+◌, ◌-◌, ◌++◌, [], drop, map}
use Rattle.c_types.specs.Tags.{plain_member}
use Rattle.plain_link.proofs.agreement.members_copied.Given as goal

abbrev pub invariant-loop-m : goal.invariant-loop-m
invariant-loop-m l =
    map plain_member l.copies.items ++ map plain_member (drop l.m-index l.members) ≡ map plain_member l.members
