use Rattle.std.proofs.Common.{◌≡◌, ◌≤◌, ℕ, Bool, List, length, reverse, take}
use Rattle.cond_bindings.specs.Names.{seen, Grows, TellsUndeclared}
use Rattle.cond_bindings.specs.PlainNames.{plain_names}
use Rattle.cond_bindings.specs.Scopes.{plain_scope}
use Rattle.cond_scopes.specs.Progress.{showing, hidden_at}
use Rattle.cond_scopes.proofs.parts.show_all.Given as goal

abbrev pub invariant-loop-left : goal.invariant-loop-left
invariant-loop-left l = record {
  within : l.left ≤ length l.pending;
  seen :
      (on : ℕ → Bool) (coming : List ℕ)
      → showing (plain_scope l.scope) (hidden_at on (reverse (take l.left l.pending))) (seen on coming (plain_names l.names))
      ≡ showing (plain_scope l.scope) (hidden_at on (reverse l.pending)) (seen on coming (plain_names l.fn.names));
  grows : Grows (plain_names l.fn.names) (plain_names l.names);
  tells : (on : ℕ → Bool) → TellsUndeclared on (plain_names l.fn.names) → TellsUndeclared on (plain_names l.names);
}

abbrev pub decreases-loop-left : goal.decreases-loop-left
decreases-loop-left l = l.left
