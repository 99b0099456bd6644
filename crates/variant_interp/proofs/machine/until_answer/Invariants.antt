use Rattle.std.proofs.Common.{◌≡◌}
use Rattle.core_meaning.specs.Run.{answer_of}
use Rattle.run_machine.specs.Machines.{outcome_of}
use Rattle.variant_interp.proofs.machine.until_answer.Given as goal

abbrev pub invariant-loop-number : goal.invariant-loop-number
invariant-loop-number l = answer_of (outcome_of l.machine) ≡ answer_of (outcome_of l.initial.machine)
