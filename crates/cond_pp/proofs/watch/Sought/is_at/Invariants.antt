use Rattle.std.proofs.Common.{◌≡◌, drop}
use Rattle.c_text.specs.Token.{plain_token}
use Rattle.read_walks.specs.Tests.{stands_at_one}
use Rattle.cond_pp.proofs.watch.Sought.is_at.Given as goal

abbrev pub invariant-loop-at : goal.invariant-loop-at
invariant-loop-at l =
    stands_at_one (drop l.at-index l.self.at.now) (plain_token l.token) ≡ stands_at_one l.self.at.now (plain_token l.token)
