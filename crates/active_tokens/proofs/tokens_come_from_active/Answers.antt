use Rattle.active_tokens.proofs.Sources.{from-active}
use Rattle.active_tokens.proofs.tokens_come_from_active.Goals as goal

pub returns : goal.returns
returns c = from-active
