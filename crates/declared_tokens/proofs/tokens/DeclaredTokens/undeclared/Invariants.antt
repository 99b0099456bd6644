use Rattle.std.proofs.Common.{◌≡◌, ℕ, [], length, map, get_or}
use Rattle.declared_tokens.proofs.tokens.DeclaredTokens.undeclared.Given as goal

abbrev pub invariant-loop : goal.invariant-loop
invariant-loop l = (length l.by_token.items ≡ l.counter) × ((token : ℕ) → get_or (map (λ entries. entries.items) l.by_token.items) token [] ≡ [])
