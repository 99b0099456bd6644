-- How a machine advances, and where it ends.
use Rattle.std.proofs.Common.{◌≡◌, List, [], ◌∷◌, map, sym, ap, ◌∙◌, append-nil, Result, IfOk}
use Rattle.std.proofs.lemmas.Result.{IfOk-weaker}
use Rattle.core_meaning.specs.Outcomes.{after, give}
use Rattle.core_meaning.specs.Values.{number, pointer, Value, nothing, scalar, whole}
use Rattle.core_meaning.specs.Meaning.{Ending, returns}
use Rattle.core_meaning.specs.Run.{answer_of, answer_at, Undefined}
use Rattle.interp_actions.specs.declared.actions.Action.{Action}
use Rattle.interp_actions.specs.declared.actions.Flow.{Flow}
use Rattle.interp_actions.specs.declared.actions.Flow.TheVariants.{Goes, Exits, Stops, Fails as Failed}
use Rattle.interp_actions.specs.declared.actions.Operand.{Operand}
use Rattle.interp_actions.specs.Actions.{ending_operand}
use Rattle.interp_actions.specs.Forms.{plain_actions, plain_operand, plain_frame}
use Rattle.interp_actions.specs.Finish.{finish, on_ending}
use Rattle.interp_actions.specs.Pieces.{operands_in}
use Rattle.interp_actions.specs.Stacks.{actions_of, operands_of, NoEnding}
use Rattle.interp_actions.specs.StackLaws.{fails_behind}
use Rattle.run_machine.specs.declared.machine.Machine.{Machine}
use Rattle.run_calls.specs.Library.{status_flow}
use Rattle.run_machine.specs.Machines.{outcome_of, outcome_on, DoesAction, Advances, program_of, state_of}

pub does_advances : (flow : Flow) (action : Action) (old middle new : Machine) → DoesAction flow action middle new → outcome_on action middle ≡ outcome_of old → Advances flow old new
does_advances Goes action old middle new does same = does ∙ same
does_advances (Exits status) action old middle new does same = ap answer_of (sym same ∙ does)
does_advances Stops action old middle new does same = ap answer_of (sym same ∙ does)
does_advances Failed action old middle new does same = ap answer_of (sym same ∙ does)

-- the same of an answer, which want of memory leaves open
pub do_advance : {E : Type 0} (r : Result Flow E) (action : Action) (old middle new : Machine) → IfOk r (λ flow. DoesAction flow action middle new) → outcome_on action middle ≡ outcome_of old → IfOk r (λ flow. Advances flow old new)
do_advance r action old middle new does same =
    IfOk-weaker r (λ flow. DoesAction flow action middle new) (λ flow. Advances flow old new)
    (λ flow done. does_advances flow action old middle new done same) does

-- without actions the run has come to the ending on top
pub ended_outcome : (m : Machine) → actions_of m.control ≡ [] → outcome_of m ≡ after m.output.items (on_ending (λ e rest. give e) (operands_in m.control) (state_of m))
ended_outcome m none =
    ap (λ ts. after m.output.items (finish (program_of m) (plain_actions m.frame.types.now m.frame.slots.items ts) m.frame.bound (plain_frame m.frame.types.now m.frame.slots.items) (operands_in m.control) (state_of m))) none

pub ended_answer : (m : Machine) (e : Ending) (rest : List Operand) (top : Operand) → actions_of m.control ≡ [] → operands_of m.control ≡ top ∷ rest → plain_operand top ≡ ending_operand e → answer_of (outcome_of m) ≡ answer_at e m.output.items
ended_answer m e rest top none there same =
    ap answer_of (ended_outcome m none)
    ∙ (ap (λ os. answer_of (after m.output.items (on_ending (λ e rest. give e) (map plain_operand os) (state_of m)))) there
    ∙ (ap (λ o. answer_of (after m.output.items (on_ending (λ e rest. give e) (o ∷ map plain_operand rest) (state_of m)))) same
    ∙ ap (answer_at e) (append-nil m.output.items)))

pub ended_undefined : (m : Machine) → actions_of m.control ≡ [] → NoEnding (operands_of m.control) → answer_of (outcome_of m) ≡ Undefined m.output.items
ended_undefined m none no_ending =
    ap answer_of (ended_outcome m none ∙ fails_behind m.output.items _ (no_ending (λ e rest. give e) (state_of m)))

pub advances_from : (flow : Flow) (old middle new : Machine) → Advances flow middle new → outcome_of middle ≡ outcome_of old → Advances flow old new
advances_from Goes old middle new advances same = advances ∙ same
advances_from (Exits status) old middle new advances same = sym (ap answer_of same) ∙ advances
advances_from Stops old middle new advances same = sym (ap answer_of same) ∙ advances
advances_from Failed old middle new advances same = sym (ap answer_of same) ∙ advances

-- `main` returned a value
pub returned_advances :
    (v : Value) (old new : Machine)
    → answer_of (outcome_of old) ≡ answer_at (returns v) new.output.items
    → Advances (status_flow v) old new
returned_advances nothing old new same = same
returned_advances (scalar (number z)) old new same = same
returned_advances (scalar (pointer q)) old new same = same
returned_advances (whole cells) old new same = same
