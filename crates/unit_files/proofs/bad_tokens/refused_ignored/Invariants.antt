use Rattle.std.proofs.Common.{◌≡◌, map, drop}
use Rattle.c_text.specs.Token.{plain_token}
use Rattle.c_text.specs.Preprocessing as spec
use Rattle.unit_files.proofs.bad_tokens.refused_ignored.Given as goal

abbrev pub invariant-loop-token : goal.invariant-loop-token
invariant-loop-token l =
    spec.refused_ignored (map plain_token (drop l.token-index l.tokens)) ≡ spec.refused_ignored (map plain_token l.tokens)
