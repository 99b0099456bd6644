use Rattle.std.proofs.Common.{◌≡◌, ◌++◌, map, drop}
use Rattle.c_text.specs.Token.{plain_token}
use Rattle.command_tokens.specs.Tokens.{prints}
use Rattle.command_tokens.proofs.unit.spellings.Given as goal

abbrev pub invariant-loop-token : goal.invariant-loop-token
invariant-loop-token l =
    l.text.items ++ (prints (map plain_token (drop l.token-index l.tokens))).report ≡ (prints (map plain_token l.tokens)).report
