use Rattle.std.proofs.Common.{◌≡◌, ◌≤◌, ℕ, Bool, not, ◌&&◌, length, take}
use Rattle.cond_formula.specs.Conditions.{condition_of, conditions_of, value, all_true}
use Rattle.cond_bindings.specs.Bindings.{visible}
use Rattle.cond_bindings.specs.Unseen.{none_there}
use Rattle.cond_bindings.proofs.undeclared.without_visible.Given as goal

abbrev pub invariant-loop-next : goal.invariant-loop-next
invariant-loop-next l = record {
  within : l.behind ≤ length l.declarations;
  same : (on : ℕ → Bool) → ((all_true on (conditions_of l.fn.path.items) && not (value on (condition_of l.seen))) && none_there on (visible (take l.behind l.declarations) l.next))
      ≡ (all_true on (conditions_of l.fn.path.items) && none_there on (visible l.declarations l.fn.latest));
}

abbrev pub decreases-loop-next : goal.decreases-loop-next
decreases-loop-next l = l.behind
