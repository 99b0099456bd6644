use Rattle.command_rename.proofs.Kept.{products_kept}
use Rattle.command_rename.proofs.laws.renamings_that_are_written_keep_products.Goals as goal

pub returns : goal.returns
returns c = products_kept (record {
  few = c.projects_have_few_files.ensures;
  alike = c.projects_are_alike.ensures;
  words_alike = c.fits_are_alike.ensures;
  classes_alike = c.classes_are_alike.ensures;
  preconditions_alike = c.preconditions_are_alike.ensures;
  stand = c.classes_stand_on_text_lines.ensures;
  apart = c.listed_stand_apart.ensures;
  renamed = c.listed_classes_are_renamed.ensures;
  fit = c.classes_fit_files.ensures;
  products = c.renamings_keep_products.ensures;
  outcomes = c.untouched_classes_keep_outcomes.ensures;
})
