-- The bodies of definitions, in a map by the names and the numbers of their units.
use Rattle.std.specs.Prelude.{ℕ, ◌&&◌, not, List, Option, Some, None, option_map, if◌then◌else◌}
use Rattle.std.specs.HashMap.{HashMap}
use Rattle.std.specs.Str.{bytes_eq}
use Rattle.core_meaning.specs.UnitNames.{Body, Defined}
use Rattle.core_meaning.specs.Linking.{Unit, whole_body, same_unit, is_tentative}
use Rattle.plain_link.specs.declared.definitions.Definite.{Definite}
use Rattle.plain_link.specs.PlainDefinitions.{plain_body}
use Rattle.plain_numbers.specs.declared.places.Linked.{Linked}
use Rattle.plain_program.specs.Owners.{unit_in}
use Rattle.plain_numbers.specs.PlainLinked.{plain_linked, entry_at}

abbrev pub body_in : Option Unit → List ℕ → Option Body
body_in None name = None
body_in (Some unit) name = whole_body unit.defined name

-- the body that the unit of a key gives its name
abbrev pub body_for : List Unit → Linked → Option Body
body_for units key = body_in (unit_in units key.unit) key.name.items

-- what a map has for a key
abbrev pub held : {S : Type 0} → ℕ → HashMap Linked Definite S → Linked → Option Body
held globals bodies key = option_map (plain_body globals) (entry_at bodies (plain_linked key))

-- the body that definitions of a unit give the name of a key
abbrev pub whole_for : ℕ → List Defined → Linked → Option Body
whole_for index definitions key = if same_unit (Some index) key.unit then whole_body definitions key.name.items else None

-- the same for one definition
abbrev pub one_for : ℕ → Defined → Linked → Option Body
one_for index d key =
    if same_unit (Some index) key.unit && (bytes_eq d.name key.name.items && not (is_tentative d.body)) then Some d.body else None
