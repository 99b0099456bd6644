use Rattle.std.proofs.Common.{◌≡◌, map}
use Rattle.text_edits.specs.Files.{plain_file}
use Rattle.project_refactorings.specs.Refactorings as spec
use Rattle.project_refactorings.proofs.sayings.files_in.Given as goal

abbrev pub invariant-loop-file : goal.invariant-loop-file
invariant-loop-file l = map plain_file l.list.items ≡ spec.files_in l.folder (map plain_file l.yielded)
