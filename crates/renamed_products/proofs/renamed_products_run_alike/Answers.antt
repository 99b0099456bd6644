use Rattle.renamed_products.proofs.Products.{programs-same}
use Rattle.renamed_products.proofs.renamed_products_run_alike.Goals as goal

pub returns : goal.returns
returns c = programs-same c.products_have_renamed_trees.ensures c.elaborations_are_alike.ensures
