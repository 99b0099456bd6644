use Rattle.std.proofs.Common.{◌≡◌, ◌++◌, map, drop}
use Rattle.text_edits.specs.Files.{plain_file, plain_files}
use Rattle.file_edits.specs.Edits as spec
use Rattle.file_edits.specs.Places.{plain_edit}
use Rattle.file_edits.proofs.applying.edited_files.Given as goal

abbrev pub invariant-loop-number : goal.invariant-loop-number
invariant-loop-number l =
    map plain_file l.list.items ++ spec.edited_files l.number (map plain_edit l.edits) (map plain_file (drop l.number l.files.list.items))
    ≡ spec.edited_files 0 (map plain_edit l.edits) (plain_files l.files)
