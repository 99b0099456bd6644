use Rattle.std.proofs.Common.{◌≡◌, length}
use Rattle.plain_elab.specs.PlainStates.{HaveNoNumbers}
use Rattle.plain_elab.proofs.judging.unnumbered.Given as goal

abbrev pub invariant-loop-index : goal.invariant-loop-index
invariant-loop-index l = (length l.all.items ≡ l._index) × HaveNoNumbers l.all.items
