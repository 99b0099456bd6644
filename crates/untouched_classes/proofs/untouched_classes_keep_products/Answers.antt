use Rattle.untouched_classes.proofs.Touched.{products_kept}
use Rattle.untouched_classes.proofs.untouched_classes_keep_products.Goals as goal

pub returns : goal.returns
returns c = products_kept c.untouched_projects_keep_programs.ensures c.untouched_projects_keep_refusals.ensures
