use Rattle.std.proofs.Common.{◌≡◌, ◌<◌, ◌≤◌, drop}
use Rattle.file_edits.specs.Places as place
use Rattle.file_edits.specs.Places.{edits_in}
use Rattle.file_edits.proofs.writing.next_start.Given as goal

abbrev pub invariant-loop-edit : goal.invariant-loop-edit
invariant-loop-edit l =
    (l.at < l.next) × (l.next ≤ l.size)
    × (place.next_start l.next l.at (edits_in l.number (drop l.edit-index l.edits)) ≡ place.next_start l.size l.at (edits_in l.number l.edits))
