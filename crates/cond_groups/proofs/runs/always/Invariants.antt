use Rattle.std.proofs.Common.{◌≡◌, map, take}
use Rattle.c_text.specs.Token.{plain_token}
use Rattle.conditional.specs.Entries.{entries_of}
use Rattle.cond_groups.specs.Truths.{always_entry}
use Rattle.cond_groups.proofs.runs.always.Given as goal

abbrev pub invariant-loop-token : goal.invariant-loop-token
invariant-loop-token l = entries_of (λ t. plain_token t.now) l.tokens.items ≡ map (λ t. always_entry (plain_token t.now)) (take l.token-index l.run)
