-- What a stack of actions comes to: the run from here to the end of the first call of `main`.
use Rattle.std.specs.Prelude.{ℕ, Bool, true, false, not, List, [], ◌∷◌, slice_get, if◌then◌else◌}
use Rattle.core_meaning.specs.Program.{PlainProgram}
use Rattle.core_meaning.specs.Values.{Pointer, at, Scalar, pointer, Value, nothing, scalar, truth_number}
use Rattle.core_meaning.specs.Memory.{first_at}
use Rattle.core_meaning.specs.Outcomes.{State, Outcome, give, undefined}
use Rattle.core_meaning.specs.Meaning.{Ending, falls, returns, Frame, turn}
use Rattle.interp_actions.specs.Actions.{PlainAction, expression_action, place_action, use_action, scalar_action, test_action, target_action, convert_action, operate_action, not_action, truth_action, nothing_action, and_action, or_action, choose_action, read_action, address_action, first_action, member_action, temporary_action, write_action, update_action, update_after_action, call_action, argument_action, arguments_action, enter_action, return_action, end_full_action, statement_action, items_action, rest_action, falls_action, if_action, return_value_action, turn_action, after_turn_action, asks_action, asking_action, step_action, job_action, leave_action, initialise_action, parts_action, write_part_action, end_scope_action, PlainOperand, value_operand, scalar_operand, place_operand, truth_operand, ending_operand}
use Rattle.interp_actions.specs.Continued.{given_then, in_type_of, call_value_then, operated_then, changed_then, read_then, write_then, fill_then, member_then, end_object_then, temporary_then, used_then, scalar_then, pointer_then, truth_then, end_full_then, full_then, called_then, value_then, place_then, values_then, write_parts_then, initialise_then, enter_then, asks_then, then_item_then, ending_then, items_then, after_turn_then, job_then}

-- the stack of operands
abbrev pub Operands : Type 0
Operands = List PlainOperand

-- values before others, the last one first
abbrev pub onto : List Value → List Value → List Value
onto [] vs = vs
onto (v ∷ before) vs = onto before (v ∷ vs)

-- What follows, given the operand that an action takes; another one has no meaning.
abbrev pub on_value : (Value → Operands → State → Outcome Ending) → Operands → State → Outcome Ending
on_value k (value_operand v ∷ operands) = k v operands
on_value k other = undefined

abbrev pub on_scalar : (Scalar → Operands → State → Outcome Ending) → Operands → State → Outcome Ending
on_scalar k (scalar_operand v ∷ operands) = k v operands
on_scalar k other = undefined

abbrev pub on_place : (Pointer → Operands → State → Outcome Ending) → Operands → State → Outcome Ending
on_place k (place_operand q ∷ operands) = k q operands
on_place k other = undefined

abbrev pub on_truth : (Bool → Operands → State → Outcome Ending) → Operands → State → Outcome Ending
on_truth k (truth_operand b ∷ operands) = k b operands
on_truth k other = undefined

abbrev pub on_ending : (Ending → Operands → State → Outcome Ending) → Operands → State → Outcome Ending
on_ending k (ending_operand e ∷ operands) = k e operands
on_ending k other = undefined

module _ (p : PlainProgram) where
  -- with the bound that is left and the function under way
  abbrev pub finish : List PlainAction → ℕ → Frame → Operands → State → Outcome Ending
  finish [] n frame operands = on_ending (λ e rest. give e) operands
  finish (expression_action e ∷ ts) n frame operands = value_then p (job_then p n) frame e (λ v. finish ts n frame (value_operand v ∷ operands))
  finish (place_action place ∷ ts) n frame operands = place_then p (job_then p n) frame place (λ q. finish ts n frame (place_operand q ∷ operands))
  finish (use_action ∷ ts) n frame operands = on_value (λ v rest. used_then (λ w. finish ts n frame (value_operand w ∷ rest)) v) operands
  finish (scalar_action ∷ ts) n frame operands = on_value (λ v rest. scalar_then (λ x. finish ts n frame (scalar_operand x ∷ rest)) v) operands
  finish (test_action ∷ ts) n frame operands = on_value (λ v rest. truth_then (λ b. finish ts n frame (truth_operand b ∷ rest)) v) operands
  finish (target_action ∷ ts) n frame operands = on_value (λ v rest. pointer_then (λ q. finish ts n frame (place_operand q ∷ rest)) v) operands
  finish (convert_action t ∷ ts) n frame operands =
      on_scalar (λ x rest. given_then (in_type_of t x) (λ v. finish ts n frame (value_operand (scalar v) ∷ rest))) operands
  finish (operate_action op ∷ ts) n frame operands =
      on_scalar (λ y. on_scalar (λ x rest. operated_then p.structs op x y (λ v. finish ts n frame (value_operand (scalar v) ∷ rest)))) operands
  finish (not_action ∷ ts) n frame operands =
      on_truth (λ b rest. finish ts n frame (value_operand (scalar (truth_number (not b))) ∷ rest)) operands
  finish (truth_action ∷ ts) n frame operands =
      on_truth (λ b rest. finish ts n frame (value_operand (scalar (truth_number b)) ∷ rest)) operands
  finish (nothing_action ∷ ts) n frame operands = on_value (λ v rest. finish ts n frame (value_operand nothing ∷ rest)) operands
  finish (and_action e ∷ ts) n frame operands =
      on_truth (λ b rest.
      if b then value_then p (job_then p n) frame e (truth_then (λ holds. finish ts n frame (value_operand (scalar (truth_number holds)) ∷ rest)))
      else finish ts n frame (value_operand (scalar (truth_number false)) ∷ rest)) operands
  finish (or_action e ∷ ts) n frame operands =
      on_truth (λ b rest.
      if b then finish ts n frame (value_operand (scalar (truth_number true)) ∷ rest)
      else value_then p (job_then p n) frame e (truth_then (λ holds. finish ts n frame (value_operand (scalar (truth_number holds)) ∷ rest)))) operands
  finish (choose_action a b ∷ ts) n frame operands =
      on_truth (λ holds rest.
      if holds then value_then p (job_then p n) frame a (λ v. finish ts n frame (value_operand v ∷ rest))
      else value_then p (job_then p n) frame b (λ v. finish ts n frame (value_operand v ∷ rest))) operands
  finish (read_action ∷ ts) n frame operands = on_place (λ q rest. read_then p.structs q (λ v. finish ts n frame (value_operand v ∷ rest))) operands
  finish (address_action ∷ ts) n frame operands = on_place (λ q rest. finish ts n frame (value_operand (scalar (pointer q)) ∷ rest)) operands
  finish (first_action ∷ ts) n frame operands =
      on_place (λ q rest. given_then (first_at q) (λ first. finish ts n frame (value_operand (scalar (pointer first)) ∷ rest))) operands
  finish (member_action i ∷ ts) n frame operands =
      on_place (λ q rest. member_then q i (λ r. finish ts n frame (place_operand r ∷ rest))) operands
  finish (temporary_action t ∷ ts) n frame operands =
      on_value (λ v rest. temporary_then p.structs t v (λ q. finish ts n frame (place_operand q ∷ rest))) operands
  finish (write_action ∷ ts) n frame operands =
      on_value (λ v. on_place (λ q rest. write_then p.structs q v (finish ts n frame (value_operand v ∷ rest)))) operands
  finish (update_action change ∷ ts) n frame operands =
      on_scalar (λ y. on_place (λ q rest.
      read_then p.structs q (scalar_then (λ x. changed_then p.structs change x y (λ v. write_then p.structs q (scalar v) (finish ts n frame (value_operand (scalar v) ∷ rest))))))) operands
  finish (update_after_action change ∷ ts) n frame operands =
      on_scalar (λ y. on_place (λ q rest.
      read_then p.structs q (scalar_then (λ x. changed_then p.structs change x y (λ v. write_then p.structs q (scalar v) (finish ts n frame (value_operand (scalar x) ∷ rest))))))) operands
  finish (call_action f vs ∷ ts) n frame operands =
      called_then p (job_then p n) (slice_get p.functions f) f vs (λ w. finish ts n frame (value_operand w ∷ operands))
  finish (argument_action f arguments before ∷ ts) n frame operands =
      on_value (λ v rest.
      values_then p (job_then p n) frame arguments (λ vs.
      called_then p (job_then p n) (slice_get p.functions f) f (onto before (v ∷ vs)) (λ w. finish ts n frame (value_operand w ∷ rest)))) operands
  finish (arguments_action f arguments before ∷ ts) n frame operands =
      values_then p (job_then p n) frame arguments (λ vs.
      called_then p (job_then p n) (slice_get p.functions f) f (onto before vs) (λ w. finish ts n frame (value_operand w ∷ operands)))
  finish (enter_action i vs body ∷ ts) n frame operands =
      enter_then p (job_then p n) frame i vs body (λ e. finish ts n frame (ending_operand e ∷ operands))
  finish (return_action m caller ∷ ts) n frame operands =
      on_ending (λ e rest. call_value_then e (λ v. finish ts m caller (value_operand v ∷ rest))) operands
  finish (end_full_action outer ∷ ts) n frame operands = end_full_then outer (finish ts n frame operands)
  finish (statement_action s ∷ ts) n frame operands = ending_then p (job_then p n) frame s (λ e. finish ts n frame (ending_operand e ∷ operands))
  finish (items_action items ∷ ts) n frame operands = items_then p (job_then p n) frame items (λ e. finish ts n frame (ending_operand e ∷ operands))
  finish (rest_action items ∷ ts) n frame operands =
      on_ending (λ e rest.
      then_item_then p (job_then p n) e
      (items_then p (job_then p n) frame items (λ d. finish ts n frame (ending_operand d ∷ rest)))
      (λ d. finish ts n frame (ending_operand d ∷ rest))) operands
  finish (falls_action ∷ ts) n frame operands = on_value (λ v rest. finish ts n frame (ending_operand falls ∷ rest)) operands
  finish (if_action a b ∷ ts) n frame operands =
      on_truth (λ holds rest.
      if holds then ending_then p (job_then p n) frame a (λ e. finish ts n frame (ending_operand e ∷ rest))
      else ending_then p (job_then p n) frame b (λ e. finish ts n frame (ending_operand e ∷ rest))) operands
  finish (return_value_action ∷ ts) n frame operands = on_value (λ v rest. finish ts n frame (ending_operand (returns v) ∷ rest)) operands
  finish (turn_action l ∷ ts) n frame operands =
      on_truth (λ holds rest.
      if holds then job_then p n (turn frame l.condition l.step l.body) (λ e. finish ts l.bound_behind frame (ending_operand e ∷ rest))
      else finish ts l.bound_behind frame (ending_operand falls ∷ rest)) operands
  finish (after_turn_action l ∷ ts) n frame operands =
      on_ending (λ e rest.
      after_turn_then p (job_then p n) e
      (full_then (value_then p (job_then p n) frame l.step)
      (λ v. asks_then p (job_then p n) frame l.condition l.step l.body (λ d. finish ts l.bound_behind frame (ending_operand d ∷ rest))))
      (λ d. finish ts l.bound_behind frame (ending_operand d ∷ rest))) operands
  finish (asks_action l ∷ ts) n frame operands =
      on_value (λ v rest.
      asks_then p (job_then p n) frame l.condition l.step l.body (λ e. finish ts l.bound_behind frame (ending_operand e ∷ rest))) operands
  finish (asking_action l ∷ ts) n frame operands =
      asks_then p (job_then p n) frame l.condition l.step l.body (λ e. finish ts l.bound_behind frame (ending_operand e ∷ operands))
  finish (step_action l ∷ ts) n frame operands =
      full_then (value_then p (job_then p n) frame l.step)
      (λ v. asks_then p (job_then p n) frame l.condition l.step l.body (λ e. finish ts l.bound_behind frame (ending_operand e ∷ operands)))
  finish (job_action l ∷ ts) n frame operands =
      job_then p n (turn frame l.condition l.step l.body) (λ e. finish ts l.bound_behind frame (ending_operand e ∷ operands))
  finish (leave_action l e ∷ ts) n frame operands = finish ts l.bound_behind frame (ending_operand e ∷ operands)
  finish (initialise_action x ∷ ts) n frame operands =
      initialise_then p (job_then p n) frame x.object x.ty x.parts (finish ts n frame operands)
  finish (parts_action x left ∷ ts) n frame operands =
      write_parts_then p (job_then p n) frame x.object left (fill_then p.structs x.object x.ty x.parts (finish ts n frame operands))
  finish (write_part_action x path left ∷ ts) n frame operands =
      on_value (λ v rest.
      write_then p.structs (at x.object path) v
      (write_parts_then p (job_then p n) frame x.object left (fill_then p.structs x.object x.ty x.parts (finish ts n frame rest)))) operands
  finish (end_scope_action object before ∷ ts) n frame operands =
      on_ending (λ e rest. end_object_then object (finish ts n before (ending_operand e ∷ rest))) operands
