use Rattle.std.proofs.Common.{◌≡◌, ◌++◌, take, map, string_bytes}
use Rattle.project_store.proofs.ReadLemmas.{text_of}
use Rattle.project_store.proofs.reads.file_names.Given as goal

abbrev pub invariant-loop-header : goal.invariant-loop-header
invariant-loop-header l = map text_of l.names.items ≡ map string_bytes (take l.header-index l.header-items)

abbrev pub invariant-loop-unit : goal.invariant-loop-unit
invariant-loop-unit l =
    map text_of l.names.items
    ≡ map string_bytes l.fn.project.headers.items ++ map (λ u. string_bytes u.file) (take l.unit-index l.unit-items)
