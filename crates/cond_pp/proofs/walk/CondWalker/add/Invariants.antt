use Rattle.std.proofs.Common.{◌≡◌, ◌++◌, map, take}
use Rattle.c_text.specs.Token.{plain_token}
use Rattle.cond_pp.proofs.walk.CondWalker.add.Given as goal

abbrev pub invariant-loop-token : goal.invariant-loop-token
invariant-loop-token l =
    (map (λ t. plain_token t.now) l.self.run.items ≡ map (λ t. plain_token t.now) l.initial.self.run.items ++ map plain_token (take l.token-index l.tokens))
    × (l.self.entered ≡ l.initial.self.entered)
    × (l.self.groups ≡ l.initial.self.groups)
