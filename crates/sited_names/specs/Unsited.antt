-- The names of units without the sites of their tokens.
use Rattle.std.specs.Prelude.{map}
use Rattle.bindings.specs.Judged.{Identified}
use Rattle.program_occurrences.specs.Occurrences.{UnitNames}
use Rattle.changed_forests.specs.Numbered.{unsited}

abbrev pub unsited_identifier : Identified → Identified
unsited_identifier i = record i { token = unsited i.token }

abbrev pub unsited_names : UnitNames → UnitNames
unsited_names unit = record unit { identified = map unsited_identifier unit.identified }
