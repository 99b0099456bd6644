use Rattle.renamings.proofs.RenameLemmas.{order-kept}
use Rattle.renamings.proofs.laws.places_keep_their_order.Goals as goal

pub returns : goal.returns
returns c = λ r number bytes lines good are names. order-kept r number bytes lines good are names
