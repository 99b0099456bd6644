-- How a step with the stacks alone is shown.
use Rattle.std.proofs.Common.{◌≡◌, ℕ, suc, List, [], ◌∷◌, ◌++◌, map, sym, ◌∙◌, ap, append-nil, Option}
use Rattle.c_types.specs.declared.types.CType.{CType}
use Rattle.core_meaning.specs.Program.{PlainProgram}
use Rattle.core_meaning.specs.Outcomes.{State, Outcome, Fails, after}
use Rattle.core_meaning.specs.Meaning.{Ending, Frame}
use Rattle.interp_actions.specs.declared.control.Control.{Control}
use Rattle.interp_actions.specs.declared.actions.Action.{Action}
use Rattle.interp_actions.specs.declared.actions.Operand.{Operand}
use Rattle.interp_actions.specs.Actions.{PlainTurns, PlainAction, statement_action, after_turn_action, job_action, PlainOperand}
use Rattle.interp_actions.specs.Forms.{plain_actions, plain_operand, plain_frame}
use Rattle.interp_actions.specs.Finish.{finish}
use Rattle.interp_actions.specs.Stacks.{actions_of, operands_of, finished, finished_with, Pushes, GoesOn}

-- the new stacks are these
pub goes_on : (action : PlainAction) (old new : Control) (actions : List Action) (operands : List Operand) → actions_of new ≡ actions → operands_of new ≡ operands → ((p : PlainProgram) (types : List CType) (slots : List (Option ℕ)) (n : ℕ) (s : State) → finish p (plain_actions types slots actions) n (plain_frame types slots) (map plain_operand operands) s ≡ finished_with action p types slots n old s) → GoesOn action old new
goes_on action old new actions operands same_actions same_operands same = record {
  same = λ p types slots n s.
      ap (λ ts. finish p (plain_actions types slots ts) n (plain_frame types slots) (map plain_operand (operands_of new)) s) same_actions
      ∙ (ap (λ os. finish p (plain_actions types slots actions) n (plain_frame types slots) (map plain_operand os) s) same_operands
      ∙ same p types slots n s);
}

-- undefined behaviour behind an output
pub fails_behind : (out : List ℕ) (o : Outcome Ending) → o ≡ Fails [] → after out o ≡ Fails out
fails_behind out o h = ap (after out) h ∙ ap Fails (append-nil out)

-- what known stacks come to
pub stacks_finish : (p : PlainProgram) (types : List CType) (slots : List (Option ℕ)) (n : ℕ) (control : Control) (actions : List Action) (operands : List Operand) (s : State) → actions_of control ≡ actions → operands_of control ≡ operands → finished p types slots n control s ≡ finish p (plain_actions types slots actions) n (plain_frame types slots) (map plain_operand operands) s
stacks_finish p types slots n control actions operands s same_actions same_operands =
    ap (λ ts. finish p (plain_actions types slots ts) n (plain_frame types slots) (map plain_operand (operands_of control)) s) same_actions
    ∙ ap (λ os. finish p (plain_actions types slots actions) n (plain_frame types slots) (map plain_operand os) s) same_operands

-- a turn begins where the bound isn't 0
pub turn_begins : (p : PlainProgram) (l : PlainTurns) (actions : List PlainAction) (n m : ℕ) (frame : Frame) (operands : List PlainOperand) (s : State) → n ≡ suc m → finish p (statement_action l.body ∷ after_turn_action l ∷ actions) m frame operands s ≡ finish p (job_action l ∷ actions) n frame operands s
turn_begins p l actions n m frame operands s same = sym (ap (λ k. finish p (job_action l ∷ actions) k frame operands s) same)

-- the actions of a full expression: those in front, its end, and what follows it
pub full_actions : (types : List CType) (slots : List (Option ℕ)) (old first second new : Control) (front : List PlainAction) (behind : PlainAction) (pushed : PlainAction) → plain_actions types slots (actions_of new) ≡ front ++ plain_actions types slots (actions_of second) → Pushes pushed first second → plain_actions types slots (actions_of first) ≡ behind ∷ plain_actions types slots (actions_of old) → plain_actions types slots (actions_of new) ≡ front ++ (pushed ∷ behind ∷ plain_actions types slots (actions_of old))
full_actions types slots old first second new front behind pushed in_front pushes at_end =
    in_front ∙ (ap (λ ts. front ++ ts) (pushes.actions types slots) ∙ ap (λ ts. front ++ (pushed ∷ ts)) at_end)

-- what stacks come to whose plain forms are known
pub plain_stacks_finish : (p : PlainProgram) (types : List CType) (slots : List (Option ℕ)) (n : ℕ) (control : Control) (actions : List PlainAction) (operands : List PlainOperand) (s t : State) → plain_actions types slots (actions_of control) ≡ actions → map plain_operand (operands_of control) ≡ operands → s ≡ t → finished p types slots n control s ≡ finish p actions n (plain_frame types slots) operands t
plain_stacks_finish p types slots n control actions operands s t same_actions same_operands same_state =
    ap (λ ts. finish p ts n (plain_frame types slots) (map plain_operand (operands_of control)) s) same_actions
    ∙ (ap (λ os. finish p actions n (plain_frame types slots) os s) same_operands
    ∙ ap (λ u. finish p actions n (plain_frame types slots) operands u) same_state)

-- an action that begins with a full expression
pub full_begins : (p : PlainProgram) (types : List CType) (slots : List (Option ℕ)) (n : ℕ) (old first second new : Control) (s t u : State) (action : PlainAction) (front : List PlainAction) (behind : PlainAction) (pushed : PlainAction) → plain_actions types slots (actions_of new) ≡ front ++ plain_actions types slots (actions_of second) → operands_of new ≡ operands_of second → Pushes pushed first second → plain_actions types slots (actions_of first) ≡ behind ∷ plain_actions types slots (actions_of old) → operands_of first ≡ operands_of old → t ≡ u → ((ts : List PlainAction) (os : List PlainOperand) → finish p (front ++ (pushed ∷ behind ∷ ts)) n (plain_frame types slots) os u ≡ finish p (action ∷ ts) n (plain_frame types slots) os s) → finished p types slots n new t ≡ finished_with action p types slots n old s
full_begins p types slots n old first second new s t u action front behind pushed in_front same_new pushes at_end same_first same_state same =
    plain_stacks_finish p types slots n new (front ++ (pushed ∷ behind ∷ plain_actions types slots (actions_of old))) (map plain_operand (operands_of old)) t u
    (full_actions types slots old first second new front behind pushed in_front pushes at_end)
    (ap (map plain_operand) (same_new ∙ (pushes.operands ∙ same_first)))
    same_state
    ∙ same (plain_actions types slots (actions_of old)) (map plain_operand (operands_of old))
