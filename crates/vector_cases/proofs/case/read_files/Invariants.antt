use Rattle.std.proofs.Common.{◌≡◌, map, length}
use Rattle.std.specs.List.{flat_map}
use Rattle.text_edits.specs.Files.{plain_file}
use Rattle.vector_cases.specs.Fields.{Reads}
use Rattle.vector_cases.specs.Lines.{file_values}
use Rattle.vector_cases.proofs.case.read_files.Given as goal

abbrev pub invariant-loop : goal.invariant-loop
invariant-loop l = (length l.list.items ≡ l.counter) × Reads l.initial.fields l.fields (flat_map file_values (map plain_file l.list.items))
