use Rattle.renamed_products.proofs.Products.{products-renamed}
use Rattle.renamed_products.proofs.products_have_renamed_trees.Goals as goal

pub returns : goal.returns
returns c =
    products-renamed c.units_are_renamed.ensures c.renamed_are_names.ensures c.trees_are_renamed.ensures c.texts_have_lines.ensures
    c.lines_have_parts.ensures c.values_are_decided.ensures
