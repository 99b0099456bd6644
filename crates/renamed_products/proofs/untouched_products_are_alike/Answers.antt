use Rattle.renamed_products.proofs.Products.{untouched-alike}
use Rattle.renamed_products.proofs.untouched_products_are_alike.Goals as goal

pub returns : goal.returns
returns c =
    untouched-alike c.untouched_units_are_alike.ensures c.renamed_are_names.ensures c.trees_are_renamed.ensures c.texts_have_lines.ensures
    c.lines_have_parts.ensures c.values_are_decided.ensures c.files_have_misplaced.ensures c.tokens_come_from_active.ensures
    c.tokens_stand_apart.ensures c.places_keep_their_order.ensures
