-- What a run begins with, and what it comes to from there.
use Rattle.std.specs.Prelude.{◌≡◌, ℕ, List, [], ◌∷◌}
use Rattle.core_meaning.specs.declared.program.Definition.{Definition}
use Rattle.core_meaning.specs.Program.{PlainProgram}
use Rattle.core_meaning.specs.Plain.{plain_items}
use Rattle.core_meaning.specs.Memory.{Memory}
use Rattle.core_meaning.specs.Outcomes.{State}
use Rattle.core_meaning.specs.Meaning.{body_of, meaning, job_ending}
use Rattle.core_meaning.specs.Run.{Answer, answer_of}
use Rattle.interp_actions.specs.Actions.{items_action}
use Rattle.interp_actions.specs.Forms.{plain_actions}
use Rattle.interp_actions.specs.Stacks.{actions_of, operands_of}
use Rattle.run_machine.specs.declared.machine.Machine.{Machine}
use Rattle.run_machine.specs.Frames.{no_slots}
use Rattle.run_machine.specs.Machines.{program_of, state_of}

-- the state in which a run begins
abbrev pub first_state : List ℕ → Memory → State
first_state input m = record { memory = m; input = input; temporaries = [] }

-- the answer of a run that begins with this memory
abbrev pub answer_from : PlainProgram → List ℕ → ℕ → Memory → Answer
answer_from p input n m = answer_of (job_ending p (meaning p n) (body_of p.main []) (first_state input m))

-- a machine has the items of a function to do, no slot of which is declared, and has put out nothing
pub record Begins (p : PlainProgram) (definition : Definition) (n : ℕ) (s : State) (m : Machine) : Type 0 where
  pub program : program_of m ≡ p
  pub types : m.frame.types.now ≡ definition.slots.items
  pub slots : m.frame.slots.items ≡ no_slots definition.slots.items
  pub bound : m.frame.bound ≡ n
  pub actions : plain_actions m.frame.types.now m.frame.slots.items (actions_of m.control) ≡ items_action (plain_items definition.body.items) ∷ []
  pub operands : operands_of m.control ≡ []
  pub state : state_of m ≡ s
  pub output : m.output.items ≡ []
