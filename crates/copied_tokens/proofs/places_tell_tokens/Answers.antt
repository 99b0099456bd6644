use Rattle.copied_tokens.proofs.Texts.{places-tell}
use Rattle.copied_tokens.proofs.places_tell_tokens.Goals as goal

pub returns : goal.returns
returns c = places-tell
