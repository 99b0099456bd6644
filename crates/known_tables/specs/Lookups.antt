-- What is found behind a name, whatever is looked for.
use Rattle.std.specs.Prelude.{ℕ, Bool, false, List, Option, None, Some, option_map}
use Rattle.c_types.specs.Types.{PlainType}
use Rattle.c_types.specs.Tags.{PlainMember}
use Rattle.conditional.specs.declared.values.CondValue.{CondValue}
use Rattle.conditional.specs.Entries.{alternatives, Sees}
use Rattle.conditional.specs.Judgements.{fine}
use Rattle.operand_types.specs.OperandTypes.{OperandType, Category, struct_in}
use Rattle.expression_types.specs.Reading.{Outcome, no_outcome}
use Rattle.type_tables.specs.Tables.{Tables, Local, Sort, FileName, is_complete_in, member_named, object_of}
use Rattle.type_tables.specs.Tables as plain

-- an operand of a type, whose struct is complete or not
abbrev pub operand_of : Tables → Category → PlainType → OperandType
operand_of t category ty = record { ty = ty; category = category; is_null = false; has_complete_struct = is_complete_in t (struct_in ty) }

-- an operand, or a refusal where there is none
abbrev pub outcome_of : Option OperandType → Outcome
outcome_of None = no_outcome
outcome_of (Some o) = fine o

-- the type of the member of a name
abbrev pub member_type : Tables → List PlainMember → List ℕ → Option OperandType
member_type t ms name = option_map (λ m. object_of t m.ty) (member_named ms name)

-- given what is looked for of an object of a type, and of the function of a declaration
module _ {P : Type 0} (object : PlainType → Option P) (function : ℕ → Option P) where
  abbrev pub found_as : Sort → Option P
  found_as (plain.object ty) = object ty
  found_as (plain.declared_function number) = function number

  abbrev pub found_at_file_scope : Option FileName → Option P
  found_at_file_scope None = None
  found_at_file_scope (Some n) = found_as n.sort

  -- a local, or else a name of file scope
  abbrev pub found_in : Option Local → Option FileName → Option P
  found_in (Some l) name = object l.ty
  found_in None name = found_at_file_scope name

-- whatever the code may answer is what is looked for
pub record Answers {T P : Type 0} (form : T → P) (on : ℕ → Bool) (objects : PlainType → CondValue T → Type 0) (functions : ℕ → CondValue T → Type 0)
    (object : PlainType → Option P) (function : ℕ → Option P) : Type 0 where
  pub objects_are : (ty : PlainType) (z : CondValue T) → objects ty z → Sees on (object ty) (alternatives form z)
  pub functions_are : (number : ℕ) (z : CondValue T) → functions number z → Sees on (function number) (alternatives form z)
