-- Definitions of a unit, without pointers and room in memory.
use Rattle.std.specs.Prelude.{ℕ, map}
use Rattle.c_types.specs.Types.{plain_type}
use Rattle.core_meaning.specs.Plain.{plain_items, plain_constant_part}
use Rattle.core_meaning.specs.UnitNames as spec
use Rattle.core_meaning.specs.UnitNames.{Body, object_body, tentative_body, function_body}
use Rattle.plain_link.specs.declared.definitions.Defined.{Defined}
use Rattle.plain_link.specs.declared.definitions.Definite.{Definite}
use Rattle.plain_link.specs.declared.definitions.Definite.TheVariants.{Object, Tentative, Function}

-- where so many globals are numbered before the texts
abbrev pub plain_body : ℕ → Definite → Body
plain_body globals (Object parts) = object_body (map (plain_constant_part globals) parts.items)
plain_body globals Tentative = tentative_body
plain_body globals (Function d) = function_body (map plain_type d.slots.items) (plain_items d.body.items)

abbrev pub plain_defined : ℕ → Defined → spec.Defined
plain_defined globals d = record { name = d.name.items; body = plain_body globals d.body }
