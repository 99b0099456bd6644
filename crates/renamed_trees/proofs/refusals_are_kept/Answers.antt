use Rattle.renamed_trees.proofs.Refused.{refusals_kept}
use Rattle.renamed_trees.proofs.refusals_are_kept.Goals as goal

pub returns : goal.returns
returns c =
    refusals_kept c.what_is_read_is_spelt.ensures c.what_is_spelt_is_read.ensures c.what_can_be_read_begins_a_unit.ensures
    c.what_begins_a_unit_can_be_read.ensures
