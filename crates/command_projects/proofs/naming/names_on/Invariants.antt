use Rattle.std.proofs.Common.{◌≡◌, ◌++◌, map, drop}
use Rattle.std.specs.String.{string_bytes}
use Rattle.cond_formula.specs.Features.{has}
use Rattle.project_file.specs.Projects.{names_from, names_on}
use Rattle.command_projects.proofs.naming.names_on.Given as goal

-- the names so far, and those that are on among the rest
abbrev pub invariant-loop-number : goal.invariant-loop-number
invariant-loop-number l =
    map string_bytes l.names.items ++ names_from l.number (has l.c) (map string_bytes (drop l.number l.features))
    ≡ names_on (has l.c) (map string_bytes l.features)
