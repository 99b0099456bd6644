use Rattle.std.proofs.Common.{◌≡◌, map, drop}
use Rattle.c_text.specs.Token.{plain_token}
use Rattle.macro_table.proofs.definitions.are_same_tokens.Given as goal

abbrev pub invariant-loop-i : goal.invariant-loop-i
invariant-loop-i l =
    map plain_token (drop l.i l.tokens) ≡ map plain_token (drop l.i l.others) → map plain_token l.tokens ≡ map plain_token l.others
