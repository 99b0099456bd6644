-- What a unit defines, as a configuration sees it (ISO/IEC 9899:2011, 6.9).
use Rattle.std.specs.Prelude.{ℕ, Bool, List, map}
use Rattle.core_meaning.specs.UnitNames.{Defined}
use Rattle.core_meaning.specs.Linking.{is_tentative}
use Rattle.type_tables.specs.declared.definitions.Definition.{Definition}

-- a definition of a name, and whether it is a tentative one of an object (6.9.2)
pub record PlainDefinition : Type 0 where
  pub name : List ℕ
  pub tentative : Bool

abbrev pub definition_form : Definition → PlainDefinition
definition_form d = record { name = d.name.items; tentative = d.tentative }

-- the definitions of a unit without what they give
abbrev pub plain_definition : Defined → PlainDefinition
plain_definition d = record { name = d.name; tentative = is_tentative d.body }

abbrev pub plain_definitions : List Defined → List PlainDefinition
plain_definitions defined = map plain_definition defined
