-- Locals, and the scopes of their objects.
use Rattle.std.proofs.Common.{◌≡◌, ℕ, List, map, refl, sym, ap, ◌∙◌, Option, Some, None, slice_get}
use Rattle.c_types.specs.Types.{PlainType, plain_type}
use Rattle.core_meaning.specs.Program.{PlainPart, PlainItems, local}
use Rattle.core_meaning.specs.Outcomes.{Outcome, Fails, after}
use Rattle.core_meaning.specs.Meaning.{Ending, with_slot}
use Rattle.interp_actions.specs.Actions.{items_action, ending_operand}
use Rattle.interp_actions.specs.Continued.{given_then, make_then, initialise_then, items_then, end_object_then, job_then}
use Rattle.interp_actions.specs.Forms.{plain_frame}
use Rattle.interp_actions.specs.StackLaws.{fails_behind}
use Rattle.run_machine.specs.declared.machine.Machine.{Machine}
use Rattle.run_machine.specs.Machines.{outcome_with, program_of, state_of, with_operand, declared_outcome}

-- what a local is declared with, where its type is known or not
abbrev declaring : Machine → ℕ → List PlainPart → PlainItems → Option PlainType → Outcome Ending
declaring m i parts rest o =
    let p = program_of m in
    let later = job_then p m.frame.bound in
    let frame = plain_frame m.frame.types.now m.frame.slots.items in
    after m.output.items
    (given_then o (λ t. make_then t (λ object.
    initialise_then p later (with_slot frame i object) object t parts
    (items_then p later (with_slot frame i object) rest (λ ending. end_object_then object (with_operand m (ending_operand ending))))))
    (state_of m))

pub local_known :
    (m : Machine) (i : ℕ) (t : PlainType) (parts : List PlainPart) (rest : PlainItems)
    → slice_get (map plain_type m.frame.types.now) i ≡ Some t
    → declared_outcome i t parts rest m ≡ outcome_with (items_action (local i parts rest)) m
local_known m i t parts rest found = sym (ap (declaring m i parts rest) found)

pub local_missing :
    (m : Machine) (i : ℕ) (parts : List PlainPart) (rest : PlainItems)
    → slice_get (map plain_type m.frame.types.now) i ≡ None
    → outcome_with (items_action (local i parts rest)) m ≡ Fails m.output.items
local_missing m i parts rest missing = ap (declaring m i parts rest) missing ∙ fails_behind m.output.items _ refl
