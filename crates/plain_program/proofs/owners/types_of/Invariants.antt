use Rattle.std.proofs.Common.{◌≡◌, map, take}
use Rattle.c_types.specs.Types.{plain_type}
use Rattle.plain_link.specs.PlainUnits.{plain_unit}
use Rattle.plain_numbers.specs.PlainLinked.{plain_linked}
use Rattle.plain_program.specs.Owners.{type_at}
use Rattle.plain_program.proofs.owners.types_of.Given as goal

abbrev pub invariant-loop-key : goal.invariant-loop-key
invariant-loop-key l = map plain_type l.types.items ≡ map (λ key. type_at (map (plain_unit 0) l.units) (plain_linked key)) (take l.key-index l.keys)
