use Rattle.std.proofs.Common.{◌≡◌, drop}
use Rattle.file_edits.specs.Places as place
use Rattle.file_edits.specs.Places.{edits_in}
use Rattle.file_edits.proofs.writing.covered_to.Given as goal

abbrev pub invariant-loop-edit : goal.invariant-loop-edit
invariant-loop-edit l =
    place.covered_to l.end l.at (edits_in l.number (drop l.edit-index l.edits)) ≡ place.covered_to l.at l.at (edits_in l.number l.edits)
