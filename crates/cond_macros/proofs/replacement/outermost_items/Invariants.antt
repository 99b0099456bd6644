use Rattle.std.proofs.Common.{◌≡◌, ℕ, Bool, ◌++◌, map, drop}
use Rattle.c_text.specs.Token.{plain_token}
use Rattle.c_text.specs.Macros as spec
use Rattle.conditional.specs.Entries.{entries_of, seen}
use Rattle.cond_bodies.specs.CondItems.{items_at}
use Rattle.cond_macros.specs.Owned.{AreOwn}
use Rattle.cond_macros.proofs.replacement.outermost_items.Given as goal

abbrev pub invariant-loop-entry : goal.invariant-loop-entry
invariant-loop-entry l = record {
  items : (on : ℕ → Bool) → items_at on l.items.items ++ map spec.fresh (seen on (entries_of (λ t. plain_token t.now) (drop l.entry-index l.tokens))) ≡ map spec.fresh (seen on (entries_of (λ t. plain_token t.now) l.tokens));
  own : AreOwn l.items.items;
}
