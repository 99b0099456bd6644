use Rattle.copied_tokens.proofs.Read.{all-read}
use Rattle.copied_tokens.proofs.names_are_read.Goals as goal

pub returns : goal.returns
returns c = all-read
