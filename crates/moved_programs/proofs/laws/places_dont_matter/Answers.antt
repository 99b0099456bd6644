use Rattle.moved_programs.proofs.Moved.{places_dont_matter}
use Rattle.moved_programs.proofs.laws.places_dont_matter.Goals as goal

pub returns : goal.returns
returns c = places_dont_matter
