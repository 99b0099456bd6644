use Rattle.std.proofs.Common.{◌≡◌, map, drop}
use Rattle.c_text.specs.Directives as spec
use Rattle.macro_table.proofs.barred.has_repetition.Given as goal

abbrev pub invariant-loop-i : goal.invariant-loop-i
invariant-loop-i l =
    spec.has_repetition (map (λ n. n.items) (drop l.i l.names)) ≡ spec.has_repetition (map (λ n. n.items) l.names)
