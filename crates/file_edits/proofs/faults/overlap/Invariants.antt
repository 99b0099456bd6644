use Rattle.std.proofs.Common.{◌≡◌, take, drop, map}
use Rattle.file_edits.specs.Faults as spec
use Rattle.file_edits.specs.Places.{plain_edit}
use Rattle.file_edits.proofs.faults.overlap.Given as goal

abbrev pub invariant-loop-second : goal.invariant-loop-second
invariant-loop-second l =
    spec.overlap_behind (map plain_edit (take l.second l.edits)) (map plain_edit (drop l.second l.edits)) ≡ spec.overlap_of (map plain_edit l.edits)
