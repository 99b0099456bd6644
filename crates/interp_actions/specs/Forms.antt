-- The plain forms of values, operands and actions.
use Rattle.std.specs.Prelude.{ℕ, List, [], ◌∷◌, map, reverse, Option, Some, None, slice_get, slice_set}
use Rattle.c_types.specs.declared.types.CType.{CType}
use Rattle.c_types.specs.Types.{plain_type}
use Rattle.core_meaning.specs.Plain.{plain_expression, plain_place, plain_arguments, plain_statement, plain_items, plain_part, path_from}
use Rattle.core_cells.specs.Forms.{plain_pointer, plain_scalar, plain_value}
use Rattle.core_meaning.specs.Meaning as ending_form
use Rattle.core_meaning.specs.Meaning.{Frame}
use Rattle.interp_actions.specs.declared.actions.Action.{Action}
use Rattle.interp_actions.specs.declared.actions.Action.TheVariants as action
use Rattle.interp_actions.specs.declared.actions.Turns.{Turns}
use Rattle.interp_actions.specs.declared.actions.Initialiser.{Initialiser}
use Rattle.interp_actions.specs.declared.actions.Operand.{Operand}
use Rattle.interp_actions.specs.declared.actions.Operand.TheVariants as operand
use Rattle.interp_actions.specs.declared.actions.Ending.{Ending}
use Rattle.interp_actions.specs.declared.actions.Ending.TheVariants as ending
use Rattle.interp_actions.specs.Actions.{PlainTurns, PlainInitialiser, PlainAction, expression_action, place_action, use_action, scalar_action, test_action, target_action, convert_action, operate_action, not_action, truth_action, nothing_action, and_action, or_action, choose_action, read_action, address_action, first_action, member_action, temporary_action, write_action, update_action, update_after_action, call_action, argument_action, enter_action, return_action, end_full_action, statement_action, items_action, rest_action, falls_action, if_action, return_value_action, turn_action, after_turn_action, asks_action, write_part_action, end_scope_action, PlainOperand, value_operand, scalar_operand, place_operand, truth_operand, ending_operand}

abbrev pub plain_turns : Turns → PlainTurns
plain_turns l = record {
  condition = plain_expression l.condition.now;
  step = plain_expression l.step.now;
  body = plain_statement l.body.now;
  bound_behind = l.bound_behind;
}

abbrev pub plain_initialiser : Initialiser → PlainInitialiser
plain_initialiser x = record { object = x.object; ty = plain_type x.ty.now; parts = map plain_part x.parts.now }

abbrev pub plain_ending : Ending → ending_form.Ending
plain_ending ending.Falls = ending_form.falls
plain_ending ending.Breaks = ending_form.breaks
plain_ending ending.Continues = ending_form.continues
plain_ending (ending.Returns v) = ending_form.returns (plain_value v)

abbrev pub plain_operand : Operand → PlainOperand
plain_operand (operand.Value v) = value_operand (plain_value v)
plain_operand (operand.Scalar s) = scalar_operand (plain_scalar s)
plain_operand (operand.Place p) = place_operand (plain_pointer p)
plain_operand (operand.Truth b) = truth_operand b
plain_operand (operand.Ending e) = ending_operand (plain_ending e)

-- ---- actions

-- an action, where it is known what the function under way has in its slots when it comes to it
abbrev pub plain_action : Frame → Action → PlainAction
plain_action before (action.Expression e) = expression_action (plain_expression e.now)
plain_action before (action.Place place) = place_action (plain_place place.now)
plain_action before action.Used = use_action
plain_action before action.Scalar = scalar_action
plain_action before action.Test = test_action
plain_action before action.Target = target_action
plain_action before (action.Convert t) = convert_action t
plain_action before (action.Operate op) = operate_action op
plain_action before action.Not = not_action
plain_action before action.TruthValue = truth_action
plain_action before action.Nothing = nothing_action
plain_action before (action.And e) = and_action (plain_expression e.now)
plain_action before (action.Or e) = or_action (plain_expression e.now)
plain_action before (action.Choose a b) = choose_action (plain_expression a.now) (plain_expression b.now)
plain_action before action.Read = read_action
plain_action before action.Address = address_action
plain_action before action.FirstElement = first_action
plain_action before (action.Member k) = member_action k
plain_action before (action.Temporary t) = temporary_action (plain_type t.now)
plain_action before action.Write = write_action
plain_action before (action.Update change) = update_action change
plain_action before (action.UpdateAfter change) = update_after_action change
plain_action before (action.Call f) = call_action f []
plain_action before (action.Argument f arguments values) =
    argument_action f (plain_arguments arguments.now) (reverse (map plain_value values.items))
plain_action before (action.Enter k values body) = enter_action k (reverse (map plain_value values.items)) (plain_items body.now)
plain_action before (action.Return frame) = return_action frame.bound before
plain_action before (action.EndFull outer) = end_full_action (reverse outer.items)
plain_action before (action.Statement s) = statement_action (plain_statement s.now)
plain_action before (action.Items items) = items_action (plain_items items.now)
plain_action before (action.RestOfItems items) = rest_action (plain_items items.now)
plain_action before action.Falls = falls_action
plain_action before (action.If a b) = if_action (plain_statement a.now) (plain_statement b.now)
plain_action before action.ReturnValue = return_value_action
plain_action before (action.Turn l) = turn_action (plain_turns l)
plain_action before (action.AfterTurn l) = after_turn_action (plain_turns l)
plain_action before (action.Asks l) = asks_action (plain_turns l)
plain_action before (action.WritePart x part left) = write_part_action (plain_initialiser x) (path_from part.now.path.items) (map plain_part left.now)
plain_action before (action.EndScope k object held) = end_scope_action object before

-- what stands in a slot
abbrev pub held_in : Option (Option ℕ) → Option ℕ
held_in (Some held) = held
held_in None = None

abbrev pub plain_frame : List CType → List (Option ℕ) → Frame
plain_frame types slots = record { types = map plain_type types; objects = λ k. held_in (slice_get slots k) }

-- the types and slots behind an action, given those at it
abbrev pub types_behind : Action → List CType → List CType
types_behind (action.Return frame) types = frame.types.now
types_behind other types = types

abbrev pub slots_behind : Action → List (Option ℕ) → List (Option ℕ)
slots_behind (action.Return frame) slots = frame.slots.items
slots_behind (action.EndScope k object held) slots = slice_set slots k held
slots_behind other slots = slots

abbrev pub plain_actions : List CType → List (Option ℕ) → List Action → List PlainAction
plain_actions types slots [] = []
plain_actions types slots (t ∷ rest) =
    plain_action (plain_frame (types_behind t types) (slots_behind t slots)) t
    ∷ plain_actions (types_behind t types) (slots_behind t slots) rest
