use Rattle.changed_forests.proofs.Seen.{numberings_are_seen_lem}
use Rattle.changed_forests.proofs.laws.numberings_are_seen.Goals as goal

pub returns : goal.returns
returns c = numberings_are_seen_lem
