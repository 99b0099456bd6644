use Rattle.std.proofs.Common.{◌≡◌, map, drop}
use Rattle.text_edits.specs.Files.{plain_file, lookup_of}
use Rattle.vector_cases.proofs.case.content.Given as goal

abbrev pub invariant-loop-file : goal.invariant-loop-file
invariant-loop-file l = lookup_of (map plain_file (drop l.file-index l.file-items)) l.name ≡ lookup_of (map plain_file l.file-items) l.name
