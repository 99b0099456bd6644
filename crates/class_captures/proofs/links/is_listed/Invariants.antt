use Rattle.std.proofs.Common.{◌≡◌, drop}
use Rattle.tied_tokens.specs.Tokens.{plain_file_token}
use Rattle.class_captures.specs.Links as spec
use Rattle.class_captures.proofs.links.is_listed.Given as goal

abbrev pub invariant-loop-other : goal.invariant-loop-other
invariant-loop-other l = spec.is_listed (drop l.other-index l.class) (plain_file_token l.token) ≡ spec.is_listed l.class (plain_file_token l.token)
