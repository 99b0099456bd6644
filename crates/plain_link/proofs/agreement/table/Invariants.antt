use Rattle.std.proofs.Common.{◌≡◌, ◌+◌, ◌-◌, ◌++◌, [], drop, map}
use Rattle.c_types.specs.Tags.{plain_tag}
use Rattle.core_meaning.specs.Entities.{tags_of}
use Rattle.plain_scope.specs.PlainScope.{plain_struct}
use Rattle.plain_link.proofs.agreement.table.Given as goal

abbrev pub invariant-loop-s : goal.invariant-loop-s
invariant-loop-s l =
    map plain_tag l.tags.items ++ tags_of (map plain_struct (drop l.s-index l.structs)) ≡ tags_of (map plain_struct l.structs)
