use Rattle.std.proofs.Common.{map}
use Rattle.c_types.specs.Tags.{plain_tag}
use Rattle.c_types.specs.Pairs.{Compared}
use Rattle.c_types.proofs.compatibility.found_agree.Given as goal

abbrev pub invariant-loop-done : goal.invariant-loop-done
invariant-loop-done l = Compared (map plain_tag l.first) (map plain_tag l.second) l.initial.found.items l.done l.found.items
