use Rattle.std.proofs.Common.{◌≡◌, map, length}
use Rattle.std.specs.String.{string_bytes}
use Rattle.vector_cases.specs.Fields.{Reads, bytes}
use Rattle.vector_cases.proofs.case.read_words.Given as goal

abbrev pub invariant-loop : goal.invariant-loop
invariant-loop l = (length l.words.items ≡ l.counter) × Reads l.initial.fields l.fields (map bytes (map string_bytes l.words.items))
