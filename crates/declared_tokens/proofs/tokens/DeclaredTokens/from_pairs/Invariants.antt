use Rattle.std.proofs.Common.{◌≡◌, ℕ, Bool, ◌++◌, drop, length}
use Rattle.cond_pairings.specs.Pairs.{pairs_seen}
use Rattle.declared_tokens.specs.Declarations.{declared_among, declared_at}
use Rattle.declared_tokens.proofs.tokens.DeclaredTokens.from_pairs.Given as goal

abbrev pub invariant-loop-pair : goal.invariant-loop-pair
invariant-loop-pair l =
    (length l.all.by_token.items ≡ l.tokens)
    × ((on : ℕ → Bool) (token : ℕ) → declared_at on l.all token ++ declared_among token (pairs_seen on (drop l.pair-index l.pairs)) ≡ declared_among token (pairs_seen on l.pairs))
