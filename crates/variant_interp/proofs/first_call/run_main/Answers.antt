use Rattle.std.proofs.Common.{ap, ◌∙◌}
use Rattle.core_meaning.specs.Plain.{plain_program}
use Rattle.core_meaning.specs.Run.{answer_of}
use Rattle.core_memory.specs.MemoryForms.{plain_memory}
use Rattle.variant_interp.specs.Starts.{first_state}
use Rattle.variant_interp.proofs.RunLemmas.{first_outcome}
use Rattle.variant_interp.proofs.first_call.run_main.Goals as goal

pub returns : goal.returns
returns c =
    c.in_ok-answer.ensures
    ∙ ap answer_of (first_outcome (plain_program c.args.program.now) c.args.definition.now c.args.bound (first_state c.args.input.now (plain_memory c.args.memory)) c.in_ok-machine.machine c.requires.main c.in_ok-machine.ensures)
