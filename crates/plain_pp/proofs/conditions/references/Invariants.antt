use Rattle.std.proofs.Common.{◌≡◌, map, take}
use Rattle.c_text.specs.Token.{plain_token}
use Rattle.plain_pp.proofs.conditions.references.Given as goal

abbrev pub invariant-loop-token : goal.invariant-loop-token
invariant-loop-token l = map (λ t. plain_token t.now) l.run.items ≡ map plain_token (take l.token-index l.tokens)
