-- What a piece with memory does to the stacks: it takes nothing more from them, and puts one operand there.
use Rattle.std.specs.Prelude.{◌≡◌, ℕ, List, [], ◌∷◌, map, Option, Some, None}
use Rattle.c_types.specs.declared.types.CType.{CType}
use Rattle.core_meaning.specs.Program.{PlainProgram}
use Rattle.core_meaning.specs.Outcomes.{State, Outcome, Fails}
use Rattle.core_meaning.specs.Meaning.{Ending}
use Rattle.core_memory.specs.declared.memory.Memory.{Memory}
use Rattle.core_memory.specs.MemoryForms.{plain_memory, structs_of}
use Rattle.interp_actions.specs.declared.control.Control.{Control}
use Rattle.interp_actions.specs.declared.actions.Flow.{Flow}
use Rattle.interp_actions.specs.declared.actions.Flow.TheVariants as flow
use Rattle.interp_actions.specs.Actions.{PlainAction, PlainOperand}
use Rattle.interp_actions.specs.Forms.{plain_operand}
use Rattle.interp_actions.specs.Continued.{Rest}
use Rattle.interp_actions.specs.Stacks.{actions_of, operands_of, finished, finished_with}

-- a state and a program, with what is in a memory
abbrev pub in_memory : State → Memory → State
in_memory s m = record s { memory = plain_memory m }

abbrev pub for_memory : PlainProgram → Memory → PlainProgram
for_memory p m = record p { structs = structs_of m }

-- what an action takes another operand for
abbrev pub operands_in : Control → List PlainOperand
operands_in control = map plain_operand (operands_of control)

-- the new stacks and memory come to what the old ones and the action come to
pub record GoesOnWith (action : PlainAction) (old new : Control) (before now : Memory) : Type 0 where
  pub same :
      (p : PlainProgram) (types : List CType) (slots : List (Option ℕ)) (n : ℕ) (s : State)
      → finished (for_memory p now) types slots n new (in_memory s now)
      ≡ finished_with action (for_memory p before) types slots n old (in_memory s before)

-- the old stacks and memory and the action have no meaning
pub record IsUndefinedWith (action : PlainAction) (old : Control) (before : Memory) : Type 0 where
  pub undefined :
      (p : PlainProgram) (types : List CType) (slots : List (Option ℕ)) (n : ℕ) (s : State)
      → finished_with action (for_memory p before) types slots n old (in_memory s before) ≡ Fails []

-- an action that needs the stacks and memory
abbrev pub StepsWith : Flow → PlainAction → Control → Control → Memory → Memory → Type 0
StepsWith flow.Goes action old new before now = GoesOnWith action old new before now
StepsWith flow.Fails action old new before now = IsUndefinedWith action old before
StepsWith other action old new before now = ⊥

-- a piece gave an operand
pub record Gave (piece : Rest PlainOperand → State → Outcome Ending) (old new : Control) (before now : Memory) : Type 0 where
  pub actions : actions_of new ≡ actions_of old
  pub structs : structs_of now ≡ structs_of before
  pub same :
      (k : List PlainOperand → State → Outcome Ending) (s : State)
      → k (operands_in new) (in_memory s now) ≡ piece (λ o. k (o ∷ operands_in old)) (in_memory s before)

-- a piece has no meaning
pub record GaveNothing (piece : Rest PlainOperand → State → Outcome Ending) (before : Memory) : Type 0 where
  pub undefined : (k : Rest PlainOperand) (s : State) → piece k (in_memory s before) ≡ Fails []

abbrev pub Gives : Flow → (Rest PlainOperand → State → Outcome Ending) → Control → Control → Memory → Memory → Type 0
Gives flow.Goes piece old new before now = Gave piece old new before now
Gives flow.Fails piece old new before now = GaveNothing piece before
Gives other piece old new before now = ⊥

-- an operand is put
pub record Put (o : PlainOperand) (old new : Control) : Type 0 where
  pub actions : actions_of new ≡ actions_of old
  pub operands : operands_in new ≡ o ∷ operands_in old

-- an operand is put, if there is one
abbrev pub PutsGiven : Flow → Option PlainOperand → Control → Control → Type 0
PutsGiven flow.Goes (Some o) old new = Put o old new
PutsGiven flow.Fails None old new = Unit {0}
PutsGiven other o old new = ⊥
