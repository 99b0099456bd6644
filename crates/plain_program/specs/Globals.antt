-- The objects of a core program.
use Rattle.std.specs.Prelude.{ℕ, List, [], Option, Some, None}
use Rattle.c_types.specs.Types.{PlainType}
use Rattle.core_meaning.specs.Program.{PlainConstantPart, PlainGlobal}
use Rattle.core_meaning.specs.UnitNames.{Body}
use Rattle.core_meaning.specs.Linking.{parts_of_body}
use Rattle.plain_numbers.specs.declared.places.Linked.{Linked}

abbrev pub parts_under : Option ℕ → Option Body → List PlainConstantPart
parts_under None body = []
parts_under (Some index) body = parts_of_body body

abbrev pub parts_for : Linked → Option Body → List PlainConstantPart
parts_for key body = parts_under key.unit body

abbrev pub global_for : PlainType → Linked → Option Body → PlainGlobal
global_for ty key body = record { ty = ty; parts = parts_for key body }
