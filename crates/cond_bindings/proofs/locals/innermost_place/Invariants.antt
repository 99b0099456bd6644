use Rattle.std.proofs.Common.{◌≡◌, ◌≤◌, length, take}
use Rattle.cond_bindings.specs.Places.{latest_first, innermost_in}
use Rattle.cond_bindings.proofs.locals.innermost_place.Given as goal

abbrev pub invariant-loop-count : goal.invariant-loop-count
invariant-loop-count l = record {
  within : l.count ≤ length l.locals;
  same : innermost_in (latest_first (take l.count l.locals)) l.name ≡ innermost_in (latest_first l.locals) l.name;
}

abbrev pub decreases-loop-count : goal.decreases-loop-count
decreases-loop-count l = l.count
