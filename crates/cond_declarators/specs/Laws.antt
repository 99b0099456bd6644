-- The structs that types are made of are there; the laws are the contracts of a function of this crate.
use Rattle.std.specs.Prelude.{◌≡◌, Bool, List, Option}
use Rattle.c_text.specs.Token.{PlainToken}
use Rattle.c_types.specs.Types.{PlainType}
use Rattle.c_tree.specs.Trees.{PlainTree}
use Rattle.core_meaning.specs.Checking as judging
use Rattle.core_meaning.specs.Checking.{Binding}
use Rattle.core_meaning.specs.Entities.{Scope}
use Rattle.core_meaning.specs.Declarations.{Based}
use Rattle.type_tables.specs.Tables.{Tables}
use Rattle.type_tables.specs.Follows.{IsThere, Follows}
use Rattle.cond_declarators.specs.Types.{based_in, object_type_in}

-- that of the type that words name, behind the words
abbrev pub BasesAreThere : Type 0
BasesAreThere =
    (declaring : Bool) (t : Tables) (scope : Scope) → Follows t scope → (words : PlainTree) (b : Based) (bindings : List Binding)
    → based_in declaring scope words ≡ judging.fine b bindings → IsThere b.scope.structs b.ty

-- that of an object's type, if that of the type before the declarator is
abbrev pub ObjectsAreThere : Type 0
ObjectsAreThere =
    (scope : Scope) (ty : PlainType) → IsThere scope.structs ty
    → (declarator : PlainTree) (name : PlainToken) (initialiser : Option PlainTree) (whole : PlainType) (bindings : List Binding)
    → object_type_in scope ty declarator name initialiser ≡ judging.fine whole bindings → IsThere scope.structs whole
