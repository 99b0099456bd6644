use Rattle.quick_form.proofs.PlaceLemmas.{places_are_one_lem}
use Rattle.quick_form.proofs.places_are_one.Goals as goal

pub returns : goal.returns
returns c = places_are_one_lem
