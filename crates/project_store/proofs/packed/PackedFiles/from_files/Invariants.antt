use Rattle.std.proofs.Common.{◌≡◌, map, take}
use Rattle.text_edits.specs.Files.{plain_file}
use Rattle.project_store.specs.PackedFiles.{files_of}
use Rattle.project_store.proofs.packed.PackedFiles.from_files.Given as goal

abbrev pub invariant-loop-file : goal.invariant-loop-file
invariant-loop-file l = files_of l.packed ≡ map plain_file (take l.file-index l.files)
