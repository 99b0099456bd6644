-- What a machine comes to.
use Rattle.std.specs.Prelude.{◌≡◌, ℕ, suc, List, [], ◌∷◌, ◌++◌, map, reverse, pos, Option}
use Rattle.c_types.specs.Types.{PlainType}
use Rattle.core_meaning.specs.Plain.{plain_program}
use Rattle.core_meaning.specs.Program.{PlainProgram, PlainPart, PlainItems}
use Rattle.core_meaning.specs.Outcomes.{State, Outcome, Exits, Stops, Fails, after, ◌>>=◌}
use Rattle.core_meaning.specs.declared.program.BuiltIn.{BuiltIn}
use Rattle.core_meaning.specs.Values.{Path, at, number, Value, scalar}
use Rattle.core_meaning.specs.Memory.{unwritten, fresh, with_new}
use Rattle.core_meaning.specs.Meaning.{Ending, Frame, with_slot, called_built_in}
use Rattle.core_meaning.specs.Run.{Ended, Running, Undefined, answer_of}
use Rattle.run_machine.specs.declared.machine.Machine.{Machine}
use Rattle.interp_actions.specs.declared.actions.Flow.{Flow}
use Rattle.interp_actions.specs.declared.actions.Flow.TheVariants as flow
use Rattle.interp_actions.specs.Actions.{PlainAction, PlainInitialiser, end_scope_action, PlainOperand, value_operand, place_operand, ending_operand}
use Rattle.interp_actions.specs.Continued.{given_then, make_then, write_then, fill_then, end_object_then, temporary_then, write_parts_then, initialise_then, items_then, enter_then, job_then}
use Rattle.core_memory.specs.MemoryForms.{plain_memory, structs_of}
use Rattle.interp_actions.specs.declared.actions.Action.{Action}
use Rattle.interp_actions.specs.Forms.{plain_actions, plain_frame, plain_operand}
use Rattle.interp_actions.specs.Finish.{finish}
use Rattle.interp_actions.specs.Pieces.{operands_in}
use Rattle.interp_actions.specs.Stacks.{actions_of, operands_of, finished, finished_with}

-- the program of a machine, with the structs of its memory
abbrev pub program_of : Machine → PlainProgram
program_of m = record (plain_program m.program.now) { structs = structs_of m.memory }

abbrev pub state_of : Machine → State
state_of m = record {
  memory = plain_memory m.memory;
  input = m.input.now;
  temporaries = reverse m.temporaries.items;
}

-- what a machine comes to, with all its output
abbrev pub outcome_of : Machine → Outcome Ending
outcome_of m =
    after m.output.items
    (finished (program_of m) m.frame.types.now m.frame.slots.items m.frame.bound m.control (state_of m))

-- the same with an action on top
abbrev pub outcome_with : PlainAction → Machine → Outcome Ending
outcome_with action m =
    after m.output.items
    (finished_with action (program_of m) m.frame.types.now m.frame.slots.items m.frame.bound m.control (state_of m))

-- a machine goes on to an outcome, or has come to it
abbrev pub ComesTo : Flow → Outcome Ending → Machine → Type 0
ComesTo flow.Goes wanted new = outcome_of new ≡ wanted
ComesTo (flow.Exits status) wanted new = wanted ≡ Exits status new.output.items
ComesTo flow.Stops wanted new = wanted ≡ Stops new.output.items
ComesTo flow.Fails wanted new = wanted ≡ Fails new.output.items

-- an action of a machine: it goes on to what the action comes to, or has come to that
abbrev pub Does : Flow → PlainAction → Machine → Machine → Type 0
Does flow action old new = ComesTo flow (outcome_with action old) new

-- the same of an action that may change the function under way
abbrev pub outcome_on : Action → Machine → Outcome Ending
outcome_on action m =
    after m.output.items
    (finish (program_of m) (plain_actions m.frame.types.now m.frame.slots.items (action ∷ actions_of m.control)) m.frame.bound
    (plain_frame m.frame.types.now m.frame.slots.items) (map plain_operand (operands_of m.control))
    (state_of m))

abbrev pub DoesAction : Flow → Action → Machine → Machine → Type 0
DoesAction flow action old new = ComesTo flow (outcome_on action old) new

-- what a machine comes to with an operand more
abbrev pub with_operand : Machine → PlainOperand → State → Outcome Ending
with_operand m o =
    finish (program_of m) (plain_actions m.frame.types.now m.frame.slots.items (actions_of m.control)) m.frame.bound
    (plain_frame m.frame.types.now m.frame.slots.items) (o ∷ operands_in m.control)

-- a function of the built-in headers is called with these values
abbrev pub built_in_outcome : BuiltIn → List Value → Machine → Outcome Ending
built_in_outcome b values m =
    after m.output.items ((called_built_in (program_of m) b values >>= (λ v. with_operand m (value_operand v))) (state_of m))

-- an operand is put, if there is one
abbrev pub given_outcome : Option PlainOperand → Machine → Outcome Ending
given_outcome o m = after m.output.items (given_then o (with_operand m) (state_of m))

-- ---- where a machine stands

-- all of a machine that bears on what it comes to
pub record Position : Type 0 where
  pub program : PlainProgram
  pub actions : List PlainAction
  pub bound : ℕ
  pub frame : Frame
  pub operands : List PlainOperand
  pub state : State
  pub output : List ℕ

abbrev pub position_of : Machine → Position
position_of m = record {
  program = program_of m;
  actions = plain_actions m.frame.types.now m.frame.slots.items (actions_of m.control);
  bound = m.frame.bound;
  frame = plain_frame m.frame.types.now m.frame.slots.items;
  operands = operands_in m.control;
  state = state_of m;
  output = m.output.items;
}

abbrev pub outcome_at : Position → Outcome Ending
outcome_at x = after x.output (finish x.program x.actions x.bound x.frame x.operands x.state)

-- a new object is in a slot, and ends behind what is done next
abbrev pub declared_at : ℕ → PlainType → Position → Position
declared_at i t x = record x {
  actions = end_scope_action x.state.memory.made x.frame ∷ x.actions;
  frame = with_slot x.frame i x.state.memory.made;
  state = record x.state { memory = with_new x.state.memory (fresh t unwritten) };
}

-- a local of a type is declared, and then come the items behind it
abbrev pub declared_outcome : ℕ → PlainType → List PlainPart → PlainItems → Machine → Outcome Ending
declared_outcome i t parts rest m =
    let p = program_of m in
    let later = job_then p m.frame.bound in
    let frame = plain_frame m.frame.types.now m.frame.slots.items in
    after m.output.items
    (make_then t (λ object.
    initialise_then p later (with_slot frame i object) object t parts
    (items_then p later (with_slot frame i object) rest (λ ending. end_object_then object (with_operand m (ending_operand ending)))))
    (state_of m))

-- a value goes to a part of an initialiser, and these parts are left
abbrev pub written_outcome : PlainInitialiser → Path → List PlainPart → Value → Machine → Outcome Ending
written_outcome x path left v m =
    let p = program_of m in
    let frame = plain_frame m.frame.types.now m.frame.slots.items in
    after m.output.items
    (write_then p.structs (at x.object path) v
    (write_parts_then p (job_then p m.frame.bound) frame x.object left
    (fill_then p.structs x.object x.ty x.parts
    (finish p (plain_actions m.frame.types.now m.frame.slots.items (actions_of m.control)) m.frame.bound frame (operands_in m.control))))
    (state_of m))

-- a parameter of a type gets its argument, and then the others do
abbrev pub entered_outcome : ℕ → PlainType → Value → List Value → PlainItems → Machine → Outcome Ending
entered_outcome i t v rest body m =
    let p = program_of m in
    let frame = plain_frame m.frame.types.now m.frame.slots.items in
    after m.output.items
    (make_then t (λ object. write_then p.structs (at object []) v
    (enter_then p (job_then p m.frame.bound) (with_slot frame i object) (suc i) rest body
    (λ ending. end_object_then object (with_operand m (ending_operand ending)))))
    (state_of m))

-- a temporary object is made for a value
abbrev pub temporary_outcome : PlainType → Value → Machine → Outcome Ending
temporary_outcome t v m =
    after m.output.items (temporary_then (structs_of m.memory) t v (λ q. with_operand m (place_operand q)) (state_of m))

-- these bytes and a newline are put out, and the value is 0
abbrev pub line_outcome : List ℕ → Machine → Outcome Ending
line_outcome bytes m =
    after (m.output.items ++ (bytes ++ 10 ∷ [])) (with_operand m (value_operand (scalar (number (pos 0)))) (state_of m))

-- a machine goes on, or the run has come to an answer
abbrev pub Advances : Flow → Machine → Machine → Type 0
Advances flow.Goes old new = outcome_of new ≡ outcome_of old
Advances (flow.Exits status) old new = answer_of (outcome_of old) ≡ Ended new.output.items status
Advances flow.Stops old new = answer_of (outcome_of old) ≡ Running new.output.items
Advances flow.Fails old new = answer_of (outcome_of old) ≡ Undefined new.output.items
