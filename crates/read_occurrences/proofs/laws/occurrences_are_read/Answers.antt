use Rattle.read_occurrences.specs.Laws.{unit_pairs}
use Rattle.read_occurrences.proofs.laws.occurrences_are_read.Goals as goal

pub returns : goal.returns
returns c = λ leaves structs tree state js u by tag are.
    let pairs = c.pairs_are_read.ensures leaves structs tree state js u by tag are in
    record { pairs_are = pairs; names_are = c.names_are_read.ensures leaves structs tree state js u (unit_pairs leaves structs tree by tag) pairs }
