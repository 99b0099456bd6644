use Rattle.std.proofs.Common.{◌≡◌, map, take}
use Rattle.c_text.specs.Token.{plain_token}
use Rattle.conditional.specs.Entries.{entries_of}
use Rattle.cond_tokens.specs.Streams.{plain_entry}
use Rattle.cond_groups.proofs.conditions.references.Given as goal

abbrev pub invariant-loop-entry : goal.invariant-loop-entry
invariant-loop-entry l = entries_of (λ t. plain_token t.now) l.list.items ≡ map plain_entry (take l.entry-index l.tokens)
