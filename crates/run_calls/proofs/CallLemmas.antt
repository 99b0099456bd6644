-- How calls begin, how their parameters get arguments, and how they come back.
use Rattle.std.proofs.Common.{◌≡◌, ℕ, suc, List, [], ◌∷◌, map, refl, sym, ap, ◌∙◌, Option, Some, None, slice_get}
use Rattle.c_types.specs.declared.types.CType.{CType}
use Rattle.c_types.specs.Types.{PlainType, plain_type}
use Rattle.core_meaning.specs.Program.{PlainProgram, PlainFunction, PlainItems, defined}
use Rattle.core_meaning.specs.Values.{at, Value}
use Rattle.core_meaning.specs.Outcomes.{State, Outcome, Fails, after}
use Rattle.core_meaning.specs.Meaning.{Ending, Frame, body_of, with_slot}
use Rattle.interp_actions.specs.declared.control.Control.{Control}
use Rattle.interp_actions.specs.declared.actions.Frame.{Frame as Function}
use Rattle.interp_actions.specs.Actions.{PlainAction, call_action, enter_action, return_action, PlainOperand, value_operand, ending_operand}
use Rattle.interp_actions.specs.Continued.{given_then, make_then, write_then, end_object_then, call_value_then, called_then, enter_then, enter_function_then, job_then}
use Rattle.interp_actions.specs.Forms.{plain_actions, plain_operand, plain_frame}
use Rattle.interp_actions.specs.Finish.{finish}
use Rattle.interp_actions.specs.Pieces.{operands_in}
use Rattle.interp_actions.specs.Stacks.{actions_of, operands_of}
use Rattle.interp_actions.specs.StackLaws.{fails_behind}
use Rattle.run_machine.specs.declared.machine.Machine.{Machine}
use Rattle.run_machine.specs.Frames.{no_slots}
use Rattle.run_machine.specs.Machines.{outcome_of, outcome_with, program_of, state_of, with_operand, entered_outcome}
use Rattle.run_machine.proofs.FrameLemmas.{nothing_declared}

-- a function before any of its slots is declared
abbrev bare : List PlainType → Frame
bare types = record { types = types; objects = λ k. None }

-- what a call comes to is what its body does, with one less of the bound
called_at :
    (p : PlainProgram) (ts : List PlainAction) (n m : ℕ) (frame : Frame) (os : List PlainOperand) (s : State)
    (f : ℕ) (vs : List Value) (types : List PlainType) (body : PlainItems)
    → slice_get p.functions f ≡ Some (defined types body) → n ≡ suc m
    → finish p (call_action f vs ∷ ts) n frame os s
    ≡ finish p (enter_action 0 vs body ∷ return_action n frame ∷ ts) m (bare types) os s
called_at p ts n m frame os s f vs types body found same =
    ap (λ o. called_then p (job_then p n) o f vs (λ v. finish p ts n frame (value_operand v ∷ os)) s) found
    ∙ (ap (λ i. job_then p i (body_of f vs) (λ e. call_value_then e (λ v. finish p ts n frame (value_operand v ∷ os))) s) same
    ∙ ap (λ o. enter_function_then p (job_then p m) o vs (λ e. call_value_then e (λ v. finish p ts n frame (value_operand v ∷ os))) s) found)

pub call_begins :
    (old : Machine) (control : Control) (inner : Function) (f m : ℕ) (vs : List Value) (types : List CType) (body : PlainItems)
    → inner.types.now ≡ types → inner.slots.items ≡ no_slots types → inner.bound ≡ m → old.frame.bound ≡ suc m
    → slice_get (program_of old).functions f ≡ Some (defined (map plain_type types) body)
    → plain_actions inner.types.now inner.slots.items (actions_of control)
    ≡ enter_action 0 vs body ∷ return_action old.frame.bound (plain_frame old.frame.types.now old.frame.slots.items) ∷ plain_actions old.frame.types.now old.frame.slots.items (actions_of old.control)
    → operands_of control ≡ operands_of old.control
    → outcome_of (record old { frame = inner; control = control }) ≡ outcome_with (call_action f vs) old
call_begins old control inner f m vs types body same_types slots bound left found actions operands =
    let p = program_of old in
    let s = state_of old in
    let caller = plain_frame old.frame.types.now old.frame.slots.items in
    let behind = plain_actions old.frame.types.now old.frame.slots.items (actions_of old.control) in
    let frame : plain_frame inner.types.now inner.slots.items ≡ bare (map plain_type types) =
    ap (λ ts. plain_frame ts inner.slots.items) same_types ∙ (ap (plain_frame types) slots ∙ nothing_declared types) in
    ap (after old.output.items)
    (ap (λ ts. finish p ts inner.bound (plain_frame inner.types.now inner.slots.items) (operands_in control) s) actions
    ∙ (ap (λ k. finish p (enter_action 0 vs body ∷ return_action old.frame.bound caller ∷ behind) k (plain_frame inner.types.now inner.slots.items) (operands_in control) s) bound
    ∙ (ap (λ (g : Frame). finish p (enter_action 0 vs body ∷ return_action old.frame.bound caller ∷ behind) m g (operands_in control) s) frame
    ∙ (ap (λ os. finish p (enter_action 0 vs body ∷ return_action old.frame.bound caller ∷ behind) m (bare (map plain_type types)) (map plain_operand os) s) operands
    ∙ sym (called_at p behind old.frame.bound m caller (operands_in old.control) s f vs (map plain_type types) body found left)))))

-- a call of what is no function
pub nothing_called :
    (m : Machine) (f : ℕ) (vs : List Value)
    → slice_get (program_of m).functions f ≡ None
    → outcome_with (call_action f vs) m ≡ Fails m.output.items
nothing_called m f vs missing =
    fails_behind m.output.items _
    (ap (λ (o : Option PlainFunction). called_then (program_of m) (job_then (program_of m) m.frame.bound) o f vs (λ v. with_operand m (value_operand v)) (state_of m)) missing)

-- what gives the next parameter its argument, where its type is known or not
abbrev entering : Machine → ℕ → Value → List Value → PlainItems → Option PlainType → Outcome Ending
entering m i v rest body o =
    let p = program_of m in
    let frame = plain_frame m.frame.types.now m.frame.slots.items in
    after m.output.items
    (given_then o (λ t. make_then t (λ object. write_then p.structs (at object []) v
    (enter_then p (job_then p m.frame.bound) (with_slot frame i object) (suc i) rest body
    (λ ending. end_object_then object (with_operand m (ending_operand ending))))))
    (state_of m))

pub entered_known :
    (m : Machine) (i : ℕ) (t : PlainType) (v : Value) (rest : List Value) (body : PlainItems)
    → slice_get (map plain_type m.frame.types.now) i ≡ Some t
    → entered_outcome i t v rest body m ≡ outcome_with (enter_action i (v ∷ rest) body) m
entered_known m i t v rest body found = sym (ap (entering m i v rest body) found)

pub entered_missing :
    (m : Machine) (i : ℕ) (v : Value) (rest : List Value) (body : PlainItems)
    → slice_get (map plain_type m.frame.types.now) i ≡ None
    → outcome_with (enter_action i (v ∷ rest) body) m ≡ Fails m.output.items
entered_missing m i v rest body missing = ap (entering m i v rest body) missing ∙ fails_behind m.output.items _ refl
