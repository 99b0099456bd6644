use Rattle.class_conditions.proofs.Passing.{told_pass}
use Rattle.class_conditions.proofs.laws.told_pass_as_occurrences.Goals as goal

pub returns : goal.returns
returns c =
    told_pass c.declarations_are_occurrences.ensures c.leaves_are_spelled.ensures c.changes_are_seen.ensures c.numberings_are_seen.ensures c.sites_dont_name.ensures
