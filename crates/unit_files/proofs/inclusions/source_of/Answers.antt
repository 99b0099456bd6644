use Rattle.std.specs.String.{string_bytes}
use Rattle.std.proofs.Common.{map}
use Rattle.c_text.specs.Token.{plain_token}
use Rattle.unit_files.proofs.IncludedFiles.{among}
use Rattle.unit_files.proofs.inclusions.source_of.Goals as goal

pub returns-clause-among : goal.returns-clause-among
returns-clause-among c = among string_bytes c.args.headers.now c.args.includer.now (map plain_token c.args.tokens.now) c.in_ok-found.found c.in_ok-found.ensures
