use Rattle.std.proofs.Common.{◌≡◌, drop, map}
use Rattle.std.specs.String.{string_bytes}
use Rattle.cond_formula.specs.Features.{has}
use Rattle.project_file.specs.Projects.{names_from, names_on}
use Rattle.plain_pp.specs.Readings.{plain_reading}
use Rattle.plain_pp.specs.Features.{with_names, started}
use Rattle.plain_pp.proofs.features.at_start.Given as goal

abbrev pub invariant-loop-number : goal.invariant-loop-number
invariant-loop-number l =
    with_names (names_from l.number (has l.c) (map string_bytes (drop l.number l.features))) (plain_reading l.reading)
    ≡ started (names_on (has l.c) (map string_bytes l.features))
