-- Declared locals, without pointers and room in memory.
use Rattle.std.specs.Prelude.{List, map}
use Rattle.c_types.specs.Types.{plain_type}
use Rattle.c_types.specs.declared.types.CType.{CType}
use Rattle.core_meaning.specs.Plain.{plain_part}
use Rattle.core_meaning.specs.Declarations as spec
use Rattle.plain_scope.specs.declared.entities.Scope.{Scope}
use Rattle.plain_scope.specs.PlainScope.{plain_scope}
use Rattle.plain_declarations.specs.declared.locals.LocalItem.{LocalItem}

abbrev pub plain_local_item : LocalItem → spec.LocalItem
plain_local_item x = record { slot = x.slot; parts = map plain_part x.parts.items }

-- what is visible behind declarations, the slots so far, and the declared locals
abbrev pub plain_locals : Scope → List CType → List LocalItem → spec.Locals
plain_locals scope slots items = record { scope = plain_scope scope; slots = map plain_type slots; items = map plain_local_item items }
