use Rattle.rename_op.proofs.Products.{tell_well}
use Rattle.rename_op.proofs.analysed.analyses_tell_well.Goals as goal

pub returns : goal.returns
returns c = tell_well (record {
  one = c.programs_are_one.ensures;
  spelt = c.tokens_are_spelt.ensures;
  changed = c.changes_are_seen.ensures;
  sites = c.sites_dont_matter.ensures;
  names = c.sites_dont_name.ensures;
  ties = c.sites_dont_tie.ensures;
  seen = c.ties_are_seen.ensures;
  stay = c.units_stay_units.ensures;
  trees = c.analyses_have_trees.ensures;
})
