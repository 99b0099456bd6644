use Rattle.std.proofs.Common.{◌≡◌, replicate, None}
use Rattle.run_machine.proofs.frames.frame_of.Given as goal

abbrev pub invariant-loop-number : goal.invariant-loop-number
invariant-loop-number l = l.slots.items ≡ replicate l.number None
