use Rattle.rename_op.proofs.AnalysedNames.{may_get_names}
use Rattle.rename_op.proofs.analysed.classes_may_get_names.Goals as goal

pub returns : goal.returns
returns c = may_get_names (record {
  declared = c.declarations_are_occurrences.ensures;
  back = c.tokens_bring_back.ensures;
  names = c.sites_dont_name.ensures;
  ties = c.sites_dont_tie.ensures;
  stay = c.units_stay_units.ensures;
  tests = c.tests_are_of_preconditions.ensures;
  closed = c.closed_are_renamed_together.ensures;
  one_name = c.occurrences_have_one_name.ensures;
  trees = c.analyses_have_trees.ensures;
  tell_well = c.analyses_tell_well.ensures;
})
