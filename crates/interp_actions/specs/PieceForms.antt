-- The pieces of actions with memory, which come to an operand.
use Rattle.std.specs.Prelude.{ℕ, Bool, List, Option, if◌then◌else◌}
use Rattle.c_types.specs.Types.{PlainType}
use Rattle.core_meaning.specs.declared.expressions.Operation.{Operation}
use Rattle.core_meaning.specs.declared.expressions.Change.{Change}
use Rattle.core_meaning.specs.Values.{Pointer, Scalar, Value, scalar}
use Rattle.core_meaning.specs.Outcomes.{State, Outcome}
use Rattle.core_meaning.specs.Meaning.{Ending}
use Rattle.interp_actions.specs.Actions.{PlainOperand, value_operand, place_operand}
use Rattle.interp_actions.specs.Continued.{Rest, given_then, scalar_then, read_then, write_then, changed_then, operated_then, member_then}

-- an operand, if there is one
abbrev pub given_piece : Option PlainOperand → Rest PlainOperand → State → Outcome Ending
given_piece o k = given_then o k

abbrev pub member_piece : Pointer → ℕ → Rest PlainOperand → State → Outcome Ending
member_piece q i k = member_then q i (λ r. k (place_operand r))

module _ (structs : List (List PlainType)) where
  abbrev pub operated_piece : Operation → Scalar → Scalar → Rest PlainOperand → State → Outcome Ending
  operated_piece op x y k = operated_then structs op x y (λ v. k (value_operand (scalar v)))

  abbrev pub read_piece : Pointer → Rest PlainOperand → State → Outcome Ending
  read_piece q k = read_then structs q (λ v. k (value_operand v))

  -- a value is written, and an operand put
  abbrev pub write_piece : Pointer → Value → PlainOperand → Rest PlainOperand → State → Outcome Ending
  write_piece q v o k = write_then structs q v (k o)

  abbrev pub updated_piece : Bool → Pointer → Scalar → Scalar → Rest PlainOperand → State → Outcome Ending
  updated_piece keeps q x v = write_piece q (scalar v) (value_operand (scalar (if keeps then x else v)))

  -- the value that a change of an old one gives is written; the old or the new one is put
  abbrev pub changed_piece : Bool → Change → Pointer → Scalar → Scalar → Rest PlainOperand → State → Outcome Ending
  changed_piece keeps change q x y k = changed_then structs change x y (λ v. updated_piece keeps q x v k)

  abbrev pub update_piece : Bool → Change → Pointer → Scalar → Rest PlainOperand → State → Outcome Ending
  update_piece keeps change q y k = read_then structs q (scalar_then (λ x. changed_piece keeps change q x y k))
