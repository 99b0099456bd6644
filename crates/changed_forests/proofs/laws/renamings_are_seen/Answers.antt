use Rattle.changed_forests.proofs.Seen.{renamings_are_seen_lem}
use Rattle.changed_forests.proofs.laws.renamings_are_seen.Goals as goal

pub returns : goal.returns
returns c = renamings_are_seen_lem
