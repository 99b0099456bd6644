use Rattle.rename_words.proofs.Places.{one_renaming}
use Rattle.rename_words.proofs.laws.asks_are_one.Goals as goal

pub returns : goal.returns
returns c = one_renaming
