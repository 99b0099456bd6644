use Rattle.std.proofs.Common.{◌≡◌, map, drop}
use Rattle.c_text.specs.Directives.{has_repetition}
use Rattle.command_projects.proofs.names.has_repetition.Given as goal

abbrev pub invariant-loop-i : goal.invariant-loop-i
invariant-loop-i l = has_repetition (map (λ n. n.items) (drop l.i l.names)) ≡ has_repetition (map (λ n. n.items) l.names)
