use Rattle.std.proofs.Common.{◌≡◌, ◌++◌, map, string_bytes, drop}
use Rattle.cond_formula.specs.Conditions.{conditions_of}
use Rattle.cond_formula.specs.Printed.{joined_text}
use Rattle.cond_formula.proofs.print.+print.Given as goal

abbrev pub invariant-write_joined-loop-index : goal.invariant-write_joined-loop-index
invariant-write_joined-loop-index l =
    l.text.items ++ joined_text (map string_bytes l.names) l.operator l.index (conditions_of (drop l.index l.parts)) ≡ l.initial.text.items ++ joined_text (map string_bytes l.names) l.operator 0 (conditions_of l.parts)
