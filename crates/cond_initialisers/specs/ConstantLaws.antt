-- That first values are refused so; the laws are the contracts of functions of this crate.
use Rattle.std.specs.Prelude.{◌≡◌, ℕ, [], List, Some, is_some, IsTrue}
use Rattle.c_text.specs.Token.{PlainToken}
use Rattle.c_types.specs.Types.{PlainType}
use Rattle.c_tree.specs.Trees.{PlainTree}
use Rattle.core_meaning.specs.Values.{Path}
use Rattle.core_meaning.specs.Checking.{Binding, fine}
use Rattle.core_meaning.specs.Entities.{Scope}
use Rattle.core_meaning.specs.Constancy.{Initial, initial}
use Rattle.core_meaning.specs.UnitNames.{constant_parts}
use Rattle.type_tables.specs.Tables.{Tables, known_in}
use Rattle.type_tables.specs.Follows.{Follows}
use Rattle.cond_initialisers.specs.Laws.{AreRefused}
use Rattle.cond_initialisers.specs.Constants.{by_constants}

-- At file scope it is enough to ask for types and constants.
abbrev pub GlobalsAreRefusedByConstants : Type 0
GlobalsAreRefusedByConstants =
    (t : Tables) (scope : Scope) (f : Follows t scope) → scope.blocks ≡ [] → (globals : ℕ) → AreRefused f.by scope (Some globals) (by_constants (known_in t))

-- What an initialiser gives an object of file scope has first values.
abbrev pub FirstValuesAreThere : Type 0
FirstValuesAreThere =
    (globals : ℕ) (scope : Scope) (ty : PlainType) (path : Path) (tree : PlainTree) (behind : PlainToken) (parts : List Initial) (bindings : List Binding)
    → initial scope (Some globals) ty path tree behind ≡ fine parts bindings → IsTrue (is_some (constant_parts globals parts))
