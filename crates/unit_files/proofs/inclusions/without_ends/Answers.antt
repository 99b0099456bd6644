use Rattle.c_text.specs.Token.{plain_token}
use Rattle.unit_files.proofs.PathLemmas.{map-middle}
use Rattle.unit_files.proofs.inclusions.without_ends.Goals as goal

pub returns-in-len2-up : goal.returns-in-len2-up
returns-in-len2-up c = map-middle plain_token c.args.tokens.now
