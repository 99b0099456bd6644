-- What is visible, with what stands at the places.
use Rattle.std.specs.Prelude.{ℕ, List, map, Option, Some}
use Rattle.cond_formula.specs.Conditions.{Condition, condition_of}
use Rattle.cond_bindings.specs.declared.unit_bindings.Declaration.{Declaration}
use Rattle.cond_bindings.specs.declared.unit_bindings.FileUse.{FileUse}
use Rattle.cond_bindings.specs.declared.unit_bindings.Identifier.{Identifier}
use Rattle.cond_bindings.specs.declared.names.Names.{Names}
use Rattle.cond_bindings.specs.Bindings.{visible, plain_identifier, plain_use}
use Rattle.cond_bindings.specs.Names.{BlockName, PlainNames}
use Rattle.name_places.specs.Places.{place_of}
use Rattle.cond_bindings.specs.Places.{LocalPlace, latest_first}

abbrev pub block_name : List Declaration → LocalPlace → BlockName
block_name declarations l = record { name = l.name; visible = visible declarations (Some l.place) }

abbrev pub names_of : List Declaration → (List ℕ → Option ℕ) → (List ℕ → Option ℕ) → List LocalPlace → List Identifier → List FileUse → Condition → PlainNames
names_of declarations file tags locals identifiers uses refused = record {
  file = λ name. visible declarations (file name);
  tags = λ name. visible declarations (tags name);
  blocks = map (block_name declarations) locals;
  identifiers = map (plain_identifier declarations) identifiers;
  uses = map plain_use uses;
  refused = refused;
}

abbrev pub plain_names : Names → PlainNames
plain_names names =
    names_of names.bindings.declarations.items (place_of names.file) (place_of names.tags) (latest_first names.blocks.items)
    names.bindings.identifiers.items names.bindings.uses.items (condition_of names.refused)
