use Rattle.quick_form.proofs.UntakenPlaces.{taken_has_no_place_lem}
use Rattle.quick_form.proofs.taken_has_no_place.Goals as goal

pub returns : goal.returns
returns c = taken_has_no_place_lem
