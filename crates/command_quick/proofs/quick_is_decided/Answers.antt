use Rattle.command_quick.proofs.Decided.{decided}
use Rattle.command_quick.proofs.quick_is_decided.Goals as goal

pub returns : goal.returns
returns c = decided c.places_are_one.ensures c.taken_has_no_place.ensures
