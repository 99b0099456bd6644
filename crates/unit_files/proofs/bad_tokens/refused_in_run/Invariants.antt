use Rattle.std.proofs.Common.{◌≡◌, map, drop}
use Rattle.c_text.specs.Token.{plain_token}
use Rattle.c_text.specs.Preprocessing as spec
use Rattle.unit_files.proofs.bad_tokens.refused_in_run.Given as goal

abbrev pub invariant-loop-token : goal.invariant-loop-token
invariant-loop-token l =
    spec.refused_token (map (λ t. plain_token t.now) (drop l.token-index l.tokens)) ≡ spec.refused_token (map (λ t. plain_token t.now) l.tokens)
