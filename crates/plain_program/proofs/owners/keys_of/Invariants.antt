use Rattle.std.proofs.Common.{◌≡◌, map, take}
use Rattle.plain_link.specs.PlainUnits.{plain_unit}
use Rattle.plain_numbers.specs.PlainLinked.{plain_linked}
use Rattle.plain_program.specs.Owners.{key_in}
use Rattle.plain_program.proofs.owners.keys_of.Given as goal

abbrev pub invariant-loop-name : goal.invariant-loop-name
invariant-loop-name l = map plain_linked l.keys.items ≡ map (key_in (map (plain_unit 0) l.units)) (map plain_linked (take l.name-index l.names))
