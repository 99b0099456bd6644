-- What is known of names and structs at a place of a unit, as a configuration sees it: structs by the numbers that their tags have in all
-- configurations, functions by the numbers of their declarations (ISO/IEC 9899:2011, 6.2.1 to 6.2.3).
use Rattle.std.specs.Prelude.{ℕ, ◌*◌, ◌==◌, nat_le, Bool, true, false, List, [], ◌∷◌, Option, Some, None, option_map, if◌then◌else◌}
use Rattle.std.specs.Str.{bytes_eq}
use Rattle.c_types.specs.Types.{PlainType, void, array_of, structure}
use Rattle.c_types.specs.Tags.{PlainMember}
use Rattle.core_meaning.specs.Entities.{Table, Signature}
use Rattle.core_meaning.specs.Entities as scopes
use Rattle.core_meaning.specs.Constancy.{capped, most_scalars}
use Rattle.operand_types.specs.OperandTypes.{OperandType, rvalue, lvalue, struct_in}
use Rattle.expression_types.specs.Known.{Callable, Denoted, an_object, a_function, Known}

-- an object, or the function that a declaration with this number declares
pub data Sort : Type 0 where
  object : PlainType → Sort
  declared_function : ℕ → Sort

-- a name of file scope
pub record FileName : Type 0 where
  pub sort : Sort
  -- it has internal linkage (6.2.2)
  pub internal : Bool

-- a parameter or local, and how many blocks are open where it is declared
pub record Local : Type 0 where
  pub name : List ℕ
  pub ty : PlainType
  pub depth : ℕ

pub record Tables : Type 0 where
  -- the structs of all units so far that are declared, those that are complete, and their members
  pub declared : ℕ → Bool
  pub complete : ℕ → Bool
  pub members : ℕ → List PlainMember
  -- how many scalars they have, up to the limit on the size of an object
  pub scalars : ℕ → ℕ
  -- the tags by which they are declared
  pub named : ℕ → List ℕ
  -- the tags that are visible
  pub tags : Table ℕ
  pub names : Table FileName
  pub signatures : ℕ → Signature
  -- how many declarations of functions there are
  pub functions : ℕ
  -- the latest first
  pub locals : List Local
  -- how many blocks are open
  pub depth : ℕ

-- a declaration that is none of a list's
abbrev pub no_signature : Signature
no_signature = record { result = void; parameters = [] }

-- the sort that a scope has, by the signatures of the declarations
abbrev pub sort_in : (ℕ → Signature) → Sort → scopes.Sort
sort_in signatures (object ty) = scopes.variable ty
sort_in signatures (declared_function number) = scopes.function (signatures number)

-- the innermost declaration of a name in the blocks that are open
abbrev pub local_named : List Local → List ℕ → Option Local
local_named [] name = None
local_named (l ∷ outer) name = if bytes_eq name l.name then Some l else local_named outer name

-- the innermost block, in which so many are open, declares the local
abbrev pub is_in_block : ℕ → Option Local → Bool
is_in_block depth None = false
is_in_block depth (Some l) = l.depth == depth

-- the member of a name
abbrev pub member_named : List PlainMember → List ℕ → Option PlainMember
member_named [] name = None
member_named (m ∷ rest) name = if bytes_eq name m.name then Some m else member_named rest name

module _ (t : Tables) where
  -- 6.2.5: objects may be of this type
  abbrev pub is_complete_type : PlainType → Bool
  is_complete_type void = false
  is_complete_type (structure number) = t.complete number
  is_complete_type other = true

  -- how many scalars an object of a type has
  abbrev pub scalars_in : PlainType → ℕ
  scalars_in (array_of element count) = capped (count * scalars_in element)
  scalars_in (structure number) = t.scalars number
  scalars_in other = 1

  abbrev pub is_small : PlainType → Bool
  is_small ty = nat_le (scalars_in ty) most_scalars

  abbrev pub is_complete_in : Option ℕ → Bool
  is_complete_in None = true
  is_complete_in (Some n) = t.complete n

  abbrev pub object_of : PlainType → OperandType
  object_of ty = record { ty = ty; category = lvalue true; is_null = false; has_complete_struct = is_complete_in (struct_in ty) }

  abbrev pub value_of : PlainType → OperandType
  value_of ty = record { ty = ty; category = rvalue; is_null = false; has_complete_struct = is_complete_in (struct_in ty) }

  -- the function that a declaration declares
  abbrev pub callable_in : ℕ → Callable
  callable_in number = record { result = value_of (t.signatures number).result; parameters = (t.signatures number).parameters }

  abbrev pub denoted_as : Sort → Denoted
  denoted_as (object ty) = an_object (object_of ty)
  denoted_as (declared_function number) = a_function (callable_in number)

  -- a local, or else a name of file scope
  abbrev pub denoted_in : Option Local → Option FileName → Option Denoted
  denoted_in (Some l) name = Some (an_object (object_of l.ty))
  denoted_in None name = option_map (λ n. denoted_as n.sort) name

  -- what expressions depend on
  abbrev pub known_in : Known
  known_in = record {
    ordinary = λ name. denoted_in (local_named t.locals name) (t.names name);
    members = λ number name. option_map (λ m. object_of m.ty) (member_named (t.members number) name);
  }
