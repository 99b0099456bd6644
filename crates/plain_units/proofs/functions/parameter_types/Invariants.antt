use Rattle.std.proofs.Common.{◌≡◌, map, take}
use Rattle.c_types.specs.Types.{plain_type}
use Rattle.core_meaning.specs.UnitNames.{parameter_types}
use Rattle.plain_parameters.specs.PlainParameters.{plain_parameter}
use Rattle.plain_units.proofs.functions.parameter_types.Given as goal

abbrev pub invariant-loop-p : goal.invariant-loop-p
invariant-loop-p l = map plain_type l.types.items ≡ parameter_types (map plain_parameter (take l.p-index l.parameters))
