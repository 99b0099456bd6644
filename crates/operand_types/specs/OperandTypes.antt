-- What operands are to the operators around them, whatever they compute (ISO/IEC 9899:2011, 6.3.2, 6.5).
use Rattle.std.specs.Prelude.{ℕ, zero, suc, Bool, true, pos, List, [], ◌∷◌, Option, Some, None, slice_get}
use Rattle.c_text.specs.Token.{PlainToken}
use Rattle.c_types.specs.Types.{PlainType, void, char, unsigned_char, int, unsigned_int, long, unsigned_long, pointer_to, array_of, structure}
use Rattle.core_meaning.specs.Program.{PlainExpression, constant, PlainPlace, slot}
use Rattle.core_meaning.specs.Checking as judged
use Rattle.core_meaning.specs.Entities.{no_entry, Struct, Scope}
use Rattle.core_meaning.specs.Typing.{is_complete_struct, Designation, value, object, Operand, Typed}
use Rattle.conditional.specs.Judgements.{Checked, fine, refused}

-- an expression has a value alone, or it designates an object, which may then be assigned to and pointed at or not (6.3.2.1)
pub data Category : Type 0 where
  rvalue : Category
  lvalue : Bool → Category

pub record OperandType : Type 0 where
  pub ty : PlainType
  pub category : Category
  -- it is the null constant
  pub is_null : Bool
  -- the struct that the type is made of is complete, or there is none
  pub has_complete_struct : Bool

-- ---- types and the structs that they are made of

abbrev pub struct_in : PlainType → Option ℕ
struct_in (structure n) = Some n
struct_in (pointer_to t) = struct_in t
struct_in (array_of t count) = struct_in t
struct_in other = None

abbrev pub is_known_complete : List Struct → Option ℕ → Bool
is_known_complete structs None = true
is_known_complete structs (Some n) = is_complete_struct (slice_get structs n)

-- the same type where structs have other numbers
abbrev pub renumbered : (ℕ → ℕ) → PlainType → PlainType
renumbered by void = void
renumbered by char = char
renumbered by unsigned_char = unsigned_char
renumbered by int = int
renumbered by unsigned_int = unsigned_int
renumbered by long = long
renumbered by unsigned_long = unsigned_long
renumbered by (pointer_to t) = pointer_to (renumbered by t)
renumbered by (array_of t count) = array_of (renumbered by t) count
renumbered by (structure n) = structure (by n)

-- ---- the types of operands

abbrev pub category_of : Designation → Category
category_of (value core) = rvalue
category_of (object place free) = lvalue free

-- the type of an operand among these structs, where they have other numbers
abbrev pub type_of_operand : (ℕ → ℕ) → List Struct → Operand → OperandType
type_of_operand by structs x = record {
  ty = renumbered by x.ty;
  category = category_of x.designates;
  is_null = x.is_null;
  has_complete_struct = is_known_complete structs (struct_in x.ty);
}

-- the type of a value
abbrev pub type_of_value : (ℕ → ℕ) → List Struct → Typed → OperandType
type_of_value by structs x = record {
  ty = renumbered by x.ty;
  category = rvalue;
  is_null = x.is_null;
  has_complete_struct = is_known_complete structs (struct_in x.ty);
}

-- what comes of a judgement, by its type alone
abbrev pub outcome_as : {A P : Type 0} → (A → P) → judged.Checked A → Checked P (Unit {0})
outcome_as form (judged.fine x bindings) = fine (form x)
outcome_as form (judged.refused kind token) = refused tt
outcome_as form judged.broken = refused tt

-- ---- an operand of a type

-- so many structs and one more, all complete or none
abbrev pub structs_up_to : ℕ → Bool → List Struct
structs_up_to zero complete = record { name = []; members = []; numbers = no_entry; complete = complete; scalars = 0 } ∷ []
structs_up_to (suc n) complete = record { name = []; members = []; numbers = no_entry; complete = complete; scalars = 0 } ∷ structs_up_to n complete

abbrev pub structs_with : Option ℕ → Bool → List Struct
structs_with None complete = []
structs_with (Some n) complete = structs_up_to n complete

-- structs among which that of the type is complete or not
abbrev pub structs_for : OperandType → List Struct
structs_for o = structs_with (struct_in o.ty) o.has_complete_struct

-- a scope with these structs and without names
abbrev pub scope_with : List Struct → Scope
scope_with structs = record {
  structs = structs;
  tags = no_entry;
  file_names = no_entry;
  order = [];
  blocks = [];
  numbers = record { globals = no_entry; functions = no_entry; literals = no_entry };
}

abbrev pub scope_for : OperandType → Scope
scope_for o = scope_with (structs_for o)

-- of two operands the one whose struct an operator asks for: the first, if its type is made of one
abbrev pub asked_of : OperandType → OperandType → OperandType
asked_of o p = elim (struct_in o.ty) as (λ x. OperandType) [ Some n ↦ o | None ↦ p ]

abbrev pub any_core : PlainExpression
any_core = constant (pos 0)

abbrev pub any_place : PlainPlace
any_place = slot 0

abbrev pub designates_as : Category → Designation
designates_as rvalue = value any_core
designates_as (lvalue free) = object any_place free

abbrev pub an_operand : PlainToken → OperandType → Operand
an_operand token o = record { ty = o.ty; designates = designates_as o.category; is_null = o.is_null; stands_at = token }

abbrev pub a_value : OperandType → Typed
a_value o = record { ty = o.ty; core = any_core; is_null = o.is_null }
