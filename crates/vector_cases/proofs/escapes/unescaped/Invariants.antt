use Rattle.std.proofs.Common.{◌≡◌, ◌++◌, option_map, drop}
use Rattle.vector_cases.specs.Fields as spec
use Rattle.vector_cases.proofs.escapes.unescaped.Given as goal

abbrev pub invariant-loop-byte : goal.invariant-loop-byte
invariant-loop-byte l =
    spec.IsDigit l.escape × (option_map (λ said. l.bytes.items ++ said) (spec.goes_on l.escape (drop l.byte-index l.byte-items)) ≡ spec.unescaped l.byte-items)
