use Rattle.renamed_classes.proofs.Fits.{classes-fit}
use Rattle.renamed_classes.proofs.classes_fit_files.Goals as goal

pub returns : goal.returns
returns c =
    classes-fit c.lines_are_one.ensures c.places_tell_tokens.ensures c.classes_stand_on_text_lines.ensures c.classes_have_one_name.ensures
