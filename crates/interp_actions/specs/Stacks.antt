-- What the stacks of a machine come to.
use Rattle.core_meaning.specs.Values.{Pointer, Scalar, Value}
use Rattle.std.specs.Prelude.{◌≡◌, ℕ, Bool, List, [], ◌∷◌, map, reverse, Option}
use Rattle.c_types.specs.declared.types.CType.{CType}
use Rattle.core_meaning.specs.Program.{PlainProgram}
use Rattle.core_meaning.specs.Outcomes.{State, Outcome, Fails}
use Rattle.core_meaning.specs.Meaning.{Ending}
use Rattle.interp_actions.specs.declared.control.Control.{Control}
use Rattle.interp_actions.specs.declared.actions.Action.{Action}
use Rattle.interp_actions.specs.declared.actions.Operand.{Operand}
use Rattle.interp_actions.specs.declared.actions.Flow.{Flow}
use Rattle.interp_actions.specs.declared.actions.Flow.TheVariants as flow
use Rattle.interp_actions.specs.Actions.{PlainAction, PlainOperand}
use Rattle.interp_actions.specs.Forms.{plain_actions, plain_operand, plain_frame}
use Rattle.interp_actions.specs.Finish.{finish, on_value, on_scalar, on_place, on_truth, on_ending}

-- the top of a stack is the end of its vector
abbrev pub actions_of : Control → List Action
actions_of control = reverse control.actions.items

abbrev pub operands_of : Control → List Operand
operands_of control = reverse control.operands.items

-- what the stacks come to, in a function with these types and slots, where so much of the bound is left
abbrev pub finished : PlainProgram → List CType → List (Option ℕ) → ℕ → Control → State → Outcome Ending
finished p types slots n control =
    finish p (plain_actions types slots (actions_of control)) n (plain_frame types slots)
    (map plain_operand (operands_of control))

-- the same with an action on top
abbrev pub finished_with : PlainAction → PlainProgram → List CType → List (Option ℕ) → ℕ → Control → State → Outcome Ending
finished_with action p types slots n control =
    finish p (action ∷ plain_actions types slots (actions_of control)) n (plain_frame types slots)
    (map plain_operand (operands_of control))

-- the new stacks come to what the old ones and the action come to
pub record GoesOn (action : PlainAction) (old new : Control) : Type 0 where
  pub same :
      (p : PlainProgram) (types : List CType) (slots : List (Option ℕ)) (n : ℕ) (s : State)
      → finished p types slots n new s ≡ finished_with action p types slots n old s

-- one action more, and the same operands
pub record Pushes (action : PlainAction) (old new : Control) : Type 0 where
  pub actions :
      (types : List CType) (slots : List (Option ℕ))
      → plain_actions types slots (actions_of new) ≡ action ∷ plain_actions types slots (actions_of old)
  pub operands : operands_of new ≡ operands_of old

-- the old stacks and the action have no meaning
pub record IsUndefined (action : PlainAction) (old : Control) : Type 0 where
  pub undefined :
      (p : PlainProgram) (types : List CType) (slots : List (Option ℕ)) (n : ℕ) (s : State)
      → finished_with action p types slots n old s ≡ Fails []

-- an action that needs the stacks alone
abbrev pub Steps : Flow → PlainAction → Control → Control → Type 0
Steps flow.Goes action old new = GoesOn action old new
Steps flow.Fails action old new = IsUndefined action old
Steps other action old new = ⊥

-- no value, scalar, place, truth value or ending is on top, so an action that takes one has no meaning
abbrev pub NoValue : List Operand → Type 0
NoValue operands =
    (k : Value → List PlainOperand → State → Outcome Ending) (s : State)
    → on_value k (map plain_operand operands) s ≡ Fails []

abbrev pub NoScalar : List Operand → Type 0
NoScalar operands =
    (k : Scalar → List PlainOperand → State → Outcome Ending) (s : State)
    → on_scalar k (map plain_operand operands) s ≡ Fails []

abbrev pub NoPlace : List Operand → Type 0
NoPlace operands =
    (k : Pointer → List PlainOperand → State → Outcome Ending) (s : State)
    → on_place k (map plain_operand operands) s ≡ Fails []

abbrev pub NoTruth : List Operand → Type 0
NoTruth operands =
    (k : Bool → List PlainOperand → State → Outcome Ending) (s : State)
    → on_truth k (map plain_operand operands) s ≡ Fails []

abbrev pub NoEnding : List Operand → Type 0
NoEnding operands =
    (k : Ending → List PlainOperand → State → Outcome Ending) (s : State)
    → on_ending k (map plain_operand operands) s ≡ Fails []
