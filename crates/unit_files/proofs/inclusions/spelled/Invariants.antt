use Rattle.std.proofs.Common.{◌≡◌, ◌++◌, map, drop}
use Rattle.std.specs.List.{flat_map}
use Rattle.c_text.specs.Token.{plain_token}
use Rattle.unit_files.proofs.inclusions.spelled.Given as goal

abbrev pub invariant-loop-token : goal.invariant-loop-token
invariant-loop-token l =
    l.name.items ++ flat_map (λ token. token.text) (map plain_token (drop l.token-index l.tokens))
    ≡ flat_map (λ token. token.text) (map plain_token l.tokens)
