-- What declarations of objects define, and where an object may not be of a type (ISO/IEC 9899:2011, 6.9.2).
use Rattle.std.specs.Prelude.{ℕ, Bool, true, false, not, List, [], ◌∷◌, if◌then◌else◌}
use Rattle.c_types.specs.Types.{PlainType, structure}
use Rattle.c_tree.specs.Trees.{PlainTrees}
use Rattle.core_meaning.specs.Expressions.{is_void}
use Rattle.core_meaning.specs.UnitNames.{Storage, by_extern, by_none, is_completed_in}
use Rattle.type_tables.specs.Tables.{Tables, is_complete_type, is_small}
use Rattle.type_tables.specs.Definitions.{PlainDefinition}

abbrev pub is_mere_declaration : Storage → Bool → Bool
is_mere_declaration by_extern false = true
is_mere_declaration storage initialised = false

abbrev pub definitions_of : Storage → List ℕ → Bool → List PlainDefinition
definitions_of storage name initialised =
    if is_mere_declaration storage initialised then [] else record { name = name; tentative = not initialised } ∷ []

module _ (t : Tables) where
  -- the struct is completed behind the declaration
  abbrev pub is_completed_later : PlainType → PlainTrees → Bool
  is_completed_later (structure number) rest = is_completed_in (t.named number) rest
  is_completed_later other rest = false

  abbrev pub may_be_incomplete : Storage → Bool → PlainType → PlainTrees → Bool
  may_be_incomplete by_extern false ty rest = not (is_void ty)
  may_be_incomplete by_none false ty rest = is_completed_later ty rest
  may_be_incomplete storage initialised ty rest = false

  -- the type of an object of file scope isn't complete though it must be, or too big
  abbrev pub is_unfit : Storage → Bool → PlainType → PlainTrees → Bool
  is_unfit storage initialised ty rest =
      if is_complete_type t ty then not (is_small t ty) else not (may_be_incomplete storage initialised ty rest)
