-- What is still to be done in a run, and what is at hand for it, without pointers and room in memory.
use Rattle.std.specs.Prelude.{ℕ, Bool, List}
use Rattle.c_types.specs.Types.{PlainType}
use Rattle.core_meaning.specs.declared.integers.IntegerType.{IntegerType}
use Rattle.core_meaning.specs.declared.expressions.Operation.{Operation}
use Rattle.core_meaning.specs.declared.expressions.Change.{Change}
use Rattle.core_meaning.specs.Program.{PlainExpression, PlainPlace, PlainArguments, PlainPart, PlainStatement, PlainItems}
use Rattle.core_meaning.specs.Values.{Path, Pointer, Scalar, Value}
use Rattle.core_meaning.specs.Meaning.{Ending, Frame}

-- a loop, and the bound that is left behind it
pub record PlainTurns : Type 0 where
  pub condition : PlainExpression
  pub step : PlainExpression
  pub body : PlainStatement
  pub bound_behind : ℕ

-- an object that gets first values, with all parts of its initialiser
pub record PlainInitialiser : Type 0 where
  pub object : ℕ
  pub ty : PlainType
  pub parts : List PlainPart

pub data PlainAction : Type 0 where
  expression_action : PlainExpression → PlainAction
  place_action : PlainPlace → PlainAction
  use_action : PlainAction
  scalar_action : PlainAction
  test_action : PlainAction
  target_action : PlainAction
  convert_action : IntegerType → PlainAction
  operate_action : Operation → PlainAction
  not_action : PlainAction
  truth_action : PlainAction
  nothing_action : PlainAction
  and_action : PlainExpression → PlainAction
  or_action : PlainExpression → PlainAction
  choose_action : PlainExpression → PlainExpression → PlainAction
  read_action : PlainAction
  address_action : PlainAction
  first_action : PlainAction
  member_action : ℕ → PlainAction
  temporary_action : PlainType → PlainAction
  write_action : PlainAction
  update_action : Change → PlainAction
  update_after_action : Change → PlainAction
  -- a call with these arguments
  call_action : ℕ → List Value → PlainAction
  -- the function, the arguments that are left, and those before the one at hand, the last one first
  argument_action : ℕ → PlainArguments → List Value → PlainAction
  -- the function, the arguments that are left, and those before them, the last one first
  arguments_action : ℕ → PlainArguments → List Value → PlainAction
  -- a body begins, with the slot of the next parameter and the arguments that are left
  enter_action : ℕ → List Value → PlainItems → PlainAction
  -- the caller and its bound
  return_action : ℕ → Frame → PlainAction
  end_full_action : List ℕ → PlainAction
  statement_action : PlainStatement → PlainAction
  items_action : PlainItems → PlainAction
  rest_action : PlainItems → PlainAction
  falls_action : PlainAction
  if_action : PlainStatement → PlainStatement → PlainAction
  return_value_action : PlainAction
  turn_action : PlainTurns → PlainAction
  after_turn_action : PlainTurns → PlainAction
  asks_action : PlainTurns → PlainAction
  -- a loop asks its condition; a turn has come to its step; a turn begins; a loop is left with an ending
  asking_action : PlainTurns → PlainAction
  step_action : PlainTurns → PlainAction
  job_action : PlainTurns → PlainAction
  leave_action : PlainTurns → Ending → PlainAction
  -- an initialiser as a whole; the parts of one that are left; a value goes to a part, and others are left
  initialise_action : PlainInitialiser → PlainAction
  parts_action : PlainInitialiser → List PlainPart → PlainAction
  write_part_action : PlainInitialiser → Path → List PlainPart → PlainAction
  -- the object, and the function's slots before it was made
  end_scope_action : ℕ → Frame → PlainAction

pub data PlainOperand : Type 0 where
  value_operand : Value → PlainOperand
  scalar_operand : Scalar → PlainOperand
  place_operand : Pointer → PlainOperand
  truth_operand : Bool → PlainOperand
  ending_operand : Ending → PlainOperand
