use Rattle.kept_products.proofs.Kept.{products-kept}
use Rattle.kept_products.proofs.renamings_keep_products.Goals as goal

pub returns : goal.returns
returns c = products-kept (record {
  one = c.programs_are_one.ensures;
  may_be = c.classes_may_be_renamed.ensures;
  touched = c.touched_classes_keep_programs.ensures;
  touched_or_not = c.classes_are_touched_or_not.ensures;
  programs = c.untouched_projects_keep_programs.ensures;
  refusals = c.untouched_projects_keep_refusals.ensures;
})
