use Rattle.std.proofs.Common.{◌≡◌, map}
use Rattle.c_text.specs.Token.{plain_token}
use Rattle.conditional.specs.Entries.{entry_of}
use Rattle.cond_tokens.specs.Streams.{plain_entry}
use Rattle.cond_tokens.proofs.lists.from_list.Given as goal

abbrev pub invariant-loop-entry : goal.invariant-loop-entry
invariant-loop-entry l = map plain_entry l.tokens.items ≡ map (entry_of plain_token) l.yielded
