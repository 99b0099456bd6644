use Rattle.changed_forests.proofs.Seen.{changes_are_seen_lem}
use Rattle.changed_forests.proofs.laws.changes_are_seen.Goals as goal

pub returns : goal.returns
returns c = changes_are_seen_lem
