use Rattle.std.proofs.Common.{◌≡◌, map, take}
use Rattle.c_text.specs.Token.{plain_token}
use Rattle.macro_table.proofs.definitions.copied_tokens.Given as goal

abbrev pub invariant-loop-token : goal.invariant-loop-token
invariant-loop-token l = map plain_token l.copies.items ≡ map plain_token (take l.token-index l.tokens)
