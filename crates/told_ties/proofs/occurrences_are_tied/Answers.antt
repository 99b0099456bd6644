use Rattle.told_ties.proofs.Told.{occurrences_tied}
use Rattle.told_ties.proofs.occurrences_are_tied.Goals as goal

pub returns : goal.returns
returns c =
    occurrences_tied c.declarations_are_occurrences.ensures c.leaves_are_spelled.ensures c.changes_are_seen.ensures c.numberings_are_seen.ensures c.sites_dont_tie.ensures
