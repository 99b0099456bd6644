use Rattle.std.proofs.Common.{◌≡◌, map, drop}
use Rattle.std.specs.List.{list_any}
use Rattle.c_text.specs.Token.{plain_token}
use Rattle.read_walks.specs.Tests.{stands_at_one}
use Rattle.cond_pp.proofs.watch.Sought.is_among.Given as goal

abbrev pub invariant-loop-token : goal.invariant-loop-token
invariant-loop-token l =
    list_any (stands_at_one l.self.at.now) (map plain_token (drop l.token-index l.tokens))
    ≡ list_any (stands_at_one l.self.at.now) (map plain_token l.tokens)
