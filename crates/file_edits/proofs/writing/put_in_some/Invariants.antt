use Rattle.std.proofs.Common.{◌≡◌, ◌++◌, drop}
use Rattle.file_edits.specs.Places as place
use Rattle.file_edits.specs.Places.{edits_in}
use Rattle.file_edits.proofs.writing.put_in_some.Given as goal

abbrev pub invariant-loop-edit : goal.invariant-loop-edit
invariant-loop-edit l =
    l.out.items ++ place.texts_at l.empty l.at (edits_in l.number (drop l.edit-index l.edits))
    ≡ l.fn.out.items ++ place.texts_at l.empty l.at (edits_in l.number l.edits)
