use Rattle.std.proofs.Common.{◌≡◌, ◌++◌, map, drop}
use Rattle.text_edits.specs.Files.{plain_file}
use Rattle.vector_cases.proofs.case.copy_of.Given as goal

abbrev pub invariant-loop-file : goal.invariant-loop-file
invariant-loop-file l = map plain_file l.list.items ++ map plain_file (drop l.file-index l.file-items) ≡ map plain_file l.file-items
