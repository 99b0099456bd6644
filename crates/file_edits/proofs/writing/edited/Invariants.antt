use Rattle.std.proofs.Common.{◌≡◌, ◌≤◌, ◌-◌, ◌++◌, length, drop}
use Rattle.file_edits.specs.Edits as spec
use Rattle.file_edits.specs.Places.{edits_in, NoneReaches}
use Rattle.file_edits.proofs.writing.edited.Given as goal

abbrev pub invariant-loop-at : goal.invariant-loop-at
invariant-loop-at l =
    (l.at ≤ length l.bytes) × NoneReaches l.at (edits_in l.number l.edits)
    × (l.out.items ++ spec.edited_from l.at (edits_in l.number l.edits) (drop l.at l.bytes) ≡ spec.edited (edits_in l.number l.edits) l.bytes)

abbrev pub decreases-loop-at : goal.decreases-loop-at
decreases-loop-at l = length l.bytes - l.at
