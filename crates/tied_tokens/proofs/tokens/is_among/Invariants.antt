use Rattle.std.proofs.Common.{◌≡◌, take}
use Rattle.std.specs.Prelude.{All}
use Rattle.tied_tokens.specs.Tokens.{plain_file_token}
use Rattle.tied_tokens.proofs.tokens.is_among.Given as goal

abbrev pub invariant-loop-other : goal.invariant-loop-other
invariant-loop-other l = All (λ other. plain_file_token other ≡ plain_file_token l.token → ⊥) (take l.other-index l.tokens)
