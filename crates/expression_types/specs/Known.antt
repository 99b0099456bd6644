-- What the types of expressions depend on: what ordinary names stand for, and the members of structs (ISO/IEC 9899:2011, 6.2.3).
use Rattle.std.specs.Prelude.{◌≡◌, ℕ, true, false, List, map, Option, Some, None, option_map, slice_get}
use Rattle.c_types.specs.Types.{PlainType}
use Rattle.core_meaning.specs.Entities.{Struct, Local, Signature, Sort, variable, function, FileName, Scope, local_in}
use Rattle.operand_types.specs.OperandTypes.{OperandType, rvalue, lvalue, struct_in, is_known_complete, renumbered}

-- a function that is called: the type of its result, and those of its parameters
pub record Callable : Type 0 where
  pub result : OperandType
  pub parameters : List PlainType

pub data Denoted : Type 0 where
  an_object : OperandType → Denoted
  a_function : Callable → Denoted

pub record Known : Type 0 where
  -- what is visible of an ordinary name
  pub ordinary : List ℕ → Option Denoted
  -- the members of the complete struct with this number
  pub members : ℕ → List ℕ → Option OperandType

-- ---- what is known where a scope is visible

module _ (by : ℕ → ℕ) (scope : Scope) where
  abbrev pub object_type : PlainType → OperandType
  object_type ty = record {
    ty = renumbered by ty;
    category = lvalue true;
    is_null = false;
    has_complete_struct = is_known_complete scope.structs (struct_in ty);
  }

  abbrev pub value_type : PlainType → OperandType
  value_type ty = record {
    ty = renumbered by ty;
    category = rvalue;
    is_null = false;
    has_complete_struct = is_known_complete scope.structs (struct_in ty);
  }

  abbrev pub callable : Signature → Callable
  callable signature = record { result = value_type signature.result; parameters = map (renumbered by) signature.parameters }

  abbrev pub denoted_by : Sort → Denoted
  denoted_by (variable ty) = an_object (object_type ty)
  denoted_by (function signature) = a_function (callable signature)

  -- a local, or else a name of file scope
  abbrev pub denoted_of : Option Local → Option FileName → Option Denoted
  denoted_of (Some found) name = Some (an_object (object_type found.ty))
  denoted_of None None = None
  denoted_of None (Some name) = Some (denoted_by name.sort)

  abbrev pub denoted : List ℕ → Option Denoted
  denoted name = denoted_of (local_in scope.blocks name) (scope.file_names name)

  abbrev pub numbered_member : Struct → Option ℕ → Option OperandType
  numbered_member s None = None
  numbered_member s (Some n) = option_map (λ m. object_type m.ty) (slice_get s.members n)

  abbrev pub member_type : Struct → List ℕ → Option OperandType
  member_type s name = numbered_member s (s.numbers name)

  -- this is what is known there, where structs have other numbers
  pub record IsKnown (known : Known) : Type 0 where
    pub ordinary : (name : List ℕ) → known.ordinary name ≡ denoted name
    pub members : (n : ℕ) (s : Struct) → slice_get scope.structs n ≡ Some s → s.complete ≡ true → (name : List ℕ) → known.members (by n) name ≡ member_type s name
