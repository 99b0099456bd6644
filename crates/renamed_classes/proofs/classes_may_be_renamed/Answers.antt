use Rattle.renamed_classes.proofs.Told.{may-be-renamed}
use Rattle.renamed_classes.proofs.classes_may_be_renamed.Goals as goal

pub returns : goal.returns
returns c = may-be-renamed c.classes_fit_files.ensures c.class_names_are_free.ensures c.names_are_no_macros.ensures
