use Rattle.std.proofs.Common.{◌≡◌, ℕ, Bool, [], ◌∷◌, ◌++◌, drop}
use Rattle.c_text.specs.Token.{plain_token}
use Rattle.cond_formula.specs.Conditions.{condition_of, value}
use Rattle.conditional.specs.Entries.{entries_of, first, seen, under}
use Rattle.cond_bodies.specs.CondItems.{item_at, or_token, token_like}
use Rattle.cond_bodies.proofs.items.push_tokens.Given as goal

abbrev pub invariant-loop-other : goal.invariant-loop-other
invariant-loop-other l = (on : ℕ → Bool) →
    seen on (entries_of plain_token l.tokens.items)
    ++ under (value on (condition_of l.left)) (token_like l.item (or_token (plain_token l.item.token.now) (first (seen on (entries_of (λ t. plain_token t.now) (drop l.other-index l.item.others.items))))) ∷ [])
    ≡ seen on (entries_of plain_token l.fn.tokens.items) ++ under (value on (condition_of l.when)) ((item_at on l.item).token ∷ [])
