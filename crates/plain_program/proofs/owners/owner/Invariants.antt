use Rattle.std.proofs.Common.{◌≡◌, map, drop}
use Rattle.plain_link.specs.PlainUnits.{plain_unit}
use Rattle.plain_numbers.specs.PlainLinked.{plain_linked}
use Rattle.plain_program.specs.Owners.{owner_from}
use Rattle.plain_program.proofs.owners.owner.Given as goal

abbrev pub invariant-loop-index : goal.invariant-loop-index
invariant-loop-index l =
    owner_from (plain_linked l.name) l.index (map (plain_unit 0) (drop l.index l.units)) ≡ owner_from (plain_linked l.name) 0 (map (plain_unit 0) l.units)
