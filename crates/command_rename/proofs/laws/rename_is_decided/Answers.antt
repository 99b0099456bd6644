use Rattle.command_rename.proofs.Decided.{renaming-lawful}
use Rattle.command_rename.proofs.laws.rename_is_decided.Goals as goal

pub returns : goal.returns
returns c = c.refactorings_are_decided.ensures (renaming-lawful (record {
  asks_one = c.asks_are_one.ensures;
  fits_one = c.fits_are_one.ensures;
  fits_alike = c.fits_are_alike.ensures;
  classes_one = c.named_classes_are_one.ensures;
  classes_alike = c.named_classes_are_alike.ensures;
  preconditions_alike = c.preconditions_are_alike.ensures;
}))
