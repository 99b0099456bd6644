-- How an action with memory is shown from its piece.
use Rattle.std.proofs.Common.{◌≡◌, ℕ, List, ◌∷◌, map, refl, sym, ◌∙◌, ap, Option, Some, None, option_map}
use Rattle.core_meaning.specs.Program.{PlainProgram}
use Rattle.core_meaning.specs.Outcomes.{State, Outcome}
use Rattle.core_meaning.specs.Meaning.{Ending, Frame}
use Rattle.core_memory.specs.declared.memory.Memory.{Memory}
use Rattle.interp_actions.specs.declared.control.Control.{Control}
use Rattle.interp_actions.specs.declared.actions.Flow.{Flow}
use Rattle.interp_actions.specs.declared.actions.Flow.TheVariants as flow
use Rattle.interp_actions.specs.Actions.{PlainAction, PlainOperand}
use Rattle.interp_actions.specs.Forms.{plain_actions, plain_operand, plain_frame}
use Rattle.interp_actions.specs.declared.actions.Operand.{Operand}
use Rattle.interp_actions.specs.Continued.{Rest, given_then}
use Rattle.interp_actions.specs.Finish.{finish}
use Rattle.interp_actions.specs.Stacks.{actions_of, operands_of, Steps}
use Rattle.interp_actions.specs.Pieces.{in_memory, for_memory, operands_in, StepsWith, Gives, PutsGiven}

-- an action comes to what its piece does, where these operands were on top
pub steps_with :
    (flow : Flow) (piece : Rest PlainOperand → State → Outcome Ending) (action : PlainAction)
    (old middle new : Control) (before now : Memory) (taken : List Operand)
    → actions_of middle ≡ actions_of old → operands_of old ≡ taken → Gives flow piece middle new before now
    → ((p : PlainProgram) (ts : List PlainAction) (n : ℕ) (frame : Frame) (s : State)
    → piece (λ o. finish (for_memory p before) ts n frame (o ∷ operands_in middle)) (in_memory s before)
    ≡ finish (for_memory p before) (action ∷ ts) n frame (map plain_operand taken) (in_memory s before))
    → StepsWith flow action old new before now
steps_with flow.Goes piece action old middle new before now taken same_actions same_operands gave same = record {
  same = λ p types slots n s.
      let ts = plain_actions types slots (actions_of old) in
      let frame = plain_frame types slots in
      ap (λ structs. finish (record p { structs = structs }) (plain_actions types slots (actions_of new)) n frame (operands_in new) (in_memory s now)) gave.structs
      ∙ (ap (λ actions. finish (for_memory p before) (plain_actions types slots actions) n frame (operands_in new) (in_memory s now)) (gave.actions ∙ same_actions)
      ∙ (gave.same (λ os t. finish (for_memory p before) ts n frame os t) s
      ∙ (same p ts n frame s
      ∙ sym (ap (λ os. finish (for_memory p before) (action ∷ ts) n frame (map plain_operand os) (in_memory s before)) same_operands))));
}
steps_with flow.Fails piece action old middle new before now taken same_actions same_operands gave same = record {
  undefined = λ p types slots n s.
      let ts = plain_actions types slots (actions_of old) in
      let frame = plain_frame types slots in
      ap (λ os. finish (for_memory p before) (action ∷ ts) n frame (map plain_operand os) (in_memory s before)) same_operands
      ∙ (sym (same p ts n frame s)
      ∙ gave.undefined (λ o. finish (for_memory p before) ts n frame (o ∷ operands_in middle)) s);
}
steps_with (flow.Exits status) piece action old middle new before now taken same_actions same_operands gave same = absurd gave
steps_with flow.Stops piece action old middle new before now taken same_actions same_operands gave same = absurd gave

-- the same of an action that needs the stacks alone, and puts an operand, if there is one
pub steps_given :
    (flow : Flow) (o : Option PlainOperand) (action : PlainAction) (old middle new : Control) (taken : List Operand)
    → actions_of middle ≡ actions_of old → operands_of old ≡ taken → PutsGiven flow o middle new
    → ((p : PlainProgram) (ts : List PlainAction) (n : ℕ) (frame : Frame) (s : State)
    → given_then o (λ x. finish p ts n frame (x ∷ operands_in middle)) s ≡ finish p (action ∷ ts) n frame (map plain_operand taken) s)
    → Steps flow action old new
steps_given flow.Goes (Some o) action old middle new taken same_actions same_operands put same = record {
  same = λ p types slots n s.
      let ts = plain_actions types slots (actions_of old) in
      let frame = plain_frame types slots in
      ap (λ actions. finish p (plain_actions types slots actions) n frame (operands_in new) s) (put.actions ∙ same_actions)
      ∙ (ap (λ os. finish p ts n frame os s) put.operands
      ∙ (same p ts n frame s
      ∙ sym (ap (λ os. finish p (action ∷ ts) n frame (map plain_operand os) s) same_operands)));
}
steps_given flow.Fails None action old middle new taken same_actions same_operands put same = record {
  undefined = λ p types slots n s.
      let ts = plain_actions types slots (actions_of old) in
      let frame = plain_frame types slots in
      ap (λ os. finish p (action ∷ ts) n frame (map plain_operand os) s) same_operands ∙ sym (same p ts n frame s);
}
steps_given flow.Goes None action old middle new taken same_actions same_operands put same = absurd put
steps_given flow.Fails (Some o) action old middle new taken same_actions same_operands put same = absurd put
steps_given (flow.Exits status) o action old middle new taken same_actions same_operands put same = absurd put
steps_given flow.Stops o action old middle new taken same_actions same_operands put same = absurd put

-- where memory stays, what is put is what the piece gives
pub gives_given :
    (flow : Flow) (o : Option PlainOperand) (piece : Rest PlainOperand → State → Outcome Ending) (old new : Control) (m : Memory)
    → PutsGiven flow o old new
    → ((k : Rest PlainOperand) (s : State) → given_then o k (in_memory s m) ≡ piece k (in_memory s m))
    → Gives flow piece old new m m
gives_given flow.Goes (Some o) piece old new m put same = record {
  actions = put.actions;
  structs = refl;
  same = λ k s. ap (λ os. k os (in_memory s m)) put.operands ∙ same (λ x. k (x ∷ operands_in old)) s;
}
gives_given flow.Fails None piece old new m put same = record { undefined = λ k s. sym (same k s) }
gives_given flow.Goes None piece old new m put same = absurd put
gives_given flow.Fails (Some o) piece old new m put same = absurd put
gives_given (flow.Exits status) o piece old new m put same = absurd put
gives_given flow.Stops o piece old new m put same = absurd put

-- what follows a value that is made into another
pub given_mapped :
    {A B : Type 0} (f : A → B) (x : Option A) (k : Rest B) (s : State)
    → given_then (option_map f x) k s ≡ given_then x (λ a. k (f a)) s
given_mapped f None k s = refl
given_mapped f (Some a) k s = refl

pub given_same :
    {A B : Type 0} (f : A → B) (x y : Option A) (k : Rest B) (s : State)
    → x ≡ y → given_then (option_map f x) k s ≡ given_then y (λ a. k (f a)) s
given_same f x y k s same = ap (λ z. given_then (option_map f z) k s) same ∙ given_mapped f y k s

-- a piece that comes to what another does
pub gives_as :
    (flow : Flow) (inner piece : Rest PlainOperand → State → Outcome Ending) (old new : Control) (before now : Memory)
    → Gives flow inner old new before now
    → ((k : Rest PlainOperand) (s : State) → inner k (in_memory s before) ≡ piece k (in_memory s before))
    → Gives flow piece old new before now
gives_as flow.Goes inner piece old new before now gave same = record {
  actions = gave.actions;
  structs = gave.structs;
  same = λ k s. gave.same k s ∙ same (λ o. k (o ∷ operands_in old)) s;
}
gives_as flow.Fails inner piece old new before now gave same = record { undefined = λ k s. sym (same k s) ∙ gave.undefined k s }
gives_as (flow.Exits status) inner piece old new before now gave same = absurd gave
gives_as flow.Stops inner piece old new before now gave same = absurd gave
