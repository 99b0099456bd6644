-- The functions of a core program.
use Rattle.std.specs.Prelude.{◌≡◌, ℕ, false, List, [], ◌∷◌, Option, Some, None, ⊤, ◌⊎◌, map}
use Rattle.c_types.specs.Types.{plain_type}
use Rattle.core_meaning.specs.declared.program.Definition.{Definition}
use Rattle.core_meaning.specs.Plain.{plain_items}
use Rattle.core_meaning.specs.Program.{PlainFunction, defined, built_in}
use Rattle.core_meaning.specs.UnitNames.{Body, function_body}
use Rattle.core_meaning.specs.Linking.{same_linked, function_of_body, built_in_named, built_in_or_exit}
use Rattle.plain_numbers.specs.declared.places.Linked.{Linked}
use Rattle.plain_numbers.specs.PlainLinked.{plain_linked}

abbrev pub plain_definition : Definition → PlainFunction
plain_definition d = defined (map plain_type d.slots.items) (plain_items d.body.items)

abbrev pub definition_of : Option Body → Option PlainFunction
definition_of (Some (function_body slots items)) = Some (defined slots items)
definition_of other = None

-- the function of a name under the number of its unit, if any, with the body that it has there
abbrev pub function_under : Option ℕ → List ℕ → Option Body → PlainFunction
function_under None name body = built_in (built_in_or_exit (built_in_named name))
function_under (Some index) name body = function_of_body body

abbrev pub function_for : Linked → Option Body → PlainFunction
function_for key body = function_under key.unit key.name.items body

-- another key, if this is one of a unit
abbrev pub IsApart : Linked → Linked → Type 0
IsApart key other = (key.unit ≡ None) ⊎ (same_linked (plain_linked key) (plain_linked other) ≡ false)

abbrev pub IsApartFrom : Linked → List Linked → Type 0
IsApartFrom key [] = ⊤
IsApartFrom key (other ∷ others) = IsApart key other × IsApartFrom key others

abbrev pub AreApart : List Linked → Type 0
AreApart [] = ⊤
AreApart (key ∷ others) = IsApartFrom key others × AreApart others

-- two maps have the same under the keys
abbrev pub SameFor : (Linked → Option Body) → (Linked → Option Body) → List Linked → Type 0
SameFor f g [] = ⊤
SameFor f g (key ∷ keys) = (f key ≡ g key) × SameFor f g keys
