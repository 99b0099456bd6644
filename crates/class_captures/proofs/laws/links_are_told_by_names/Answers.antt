use Rattle.class_captures.proofs.Told.{names-tell}
use Rattle.class_captures.proofs.laws.links_are_told_by_names.Goals as goal

pub returns : goal.returns
returns c = names-tell c.ties_are_seen.ensures
