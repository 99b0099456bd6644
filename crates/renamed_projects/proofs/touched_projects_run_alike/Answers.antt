use Rattle.renamed_projects.proofs.Touched.{run-alike}
use Rattle.renamed_projects.proofs.touched_projects_run_alike.Goals as goal

pub returns : goal.returns
returns c =
    run-alike c.sources_are_renamed.ensures c.trees_are_of_sources.ensures c.products_have_renamed_trees.ensures
    c.renamed_products_run_alike.ensures
