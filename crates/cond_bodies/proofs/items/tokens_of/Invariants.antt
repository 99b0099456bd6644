use Rattle.std.proofs.Common.{◌≡◌, ℕ, Bool, ◌++◌, map, drop}
use Rattle.c_text.specs.Token.{plain_token}
use Rattle.conditional.specs.Entries.{entries_of, seen}
use Rattle.cond_bodies.specs.CondItems.{items_at}
use Rattle.cond_bodies.proofs.items.tokens_of.Given as goal

abbrev pub invariant-loop-entry : goal.invariant-loop-entry
invariant-loop-entry l = (on : ℕ → Bool) →
    seen on (entries_of plain_token l.entries.items) ++ map (λ i. i.token) (items_at on (drop l.entry-index l.items))
    ≡ map (λ i. i.token) (items_at on l.items)
