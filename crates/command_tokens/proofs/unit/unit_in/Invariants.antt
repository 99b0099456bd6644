use Rattle.std.proofs.Common.{◌≡◌, map, drop}
use Rattle.project_file.specs.View.{unit_view}
use Rattle.command_tokens.specs.Tokens.{unit_from}
use Rattle.command_tokens.proofs.unit.unit_in.Given as goal

abbrev pub invariant-loop-number : goal.invariant-loop-number
invariant-loop-number l =
    unit_from l.number l.file (map unit_view (drop l.number l.units)) ≡ unit_from 0 l.file (map unit_view l.units)
