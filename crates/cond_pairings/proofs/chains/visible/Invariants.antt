use Rattle.std.proofs.Common.{◌≡◌, ◌≤◌, ◌++◌, length, take, map}
use Rattle.cond_bindings.specs.Bindings as spec
use Rattle.cond_bindings.specs.NameSteps.{as_visible}
use Rattle.cond_pairings.proofs.chains.visible.Given as goal

abbrev pub invariant-loop-next : goal.invariant-loop-next
invariant-loop-next l = record {
  within : l.behind ≤ length l.declarations;
  same : map (λ d. as_visible d.now) l.all.items ++ spec.visible (take l.behind l.declarations) l.next ≡ spec.visible l.declarations l.fn.latest;
}

abbrev pub decreases-loop-next : goal.decreases-loop-next
decreases-loop-next l = l.behind
