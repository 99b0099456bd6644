use Rattle.std.proofs.Common.{◌≡◌, map, take}
use Rattle.cond_bindings.specs.Bindings.{plain_use}
use Rattle.cond_types.proofs.uses.copied.Given as goal

abbrev pub invariant-loop-found : goal.invariant-loop-found
invariant-loop-found l = map plain_use l.copies.items ≡ map plain_use (take l.found-index l.uses)
