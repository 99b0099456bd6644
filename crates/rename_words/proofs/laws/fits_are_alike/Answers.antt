use Rattle.rename_words.proofs.Alike.{fits_alike}
use Rattle.rename_words.proofs.laws.fits_are_alike.Goals as goal

pub returns : goal.returns
returns c = fits_alike
