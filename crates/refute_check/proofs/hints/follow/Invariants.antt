use Rattle.std.proofs.Common.{◌≡◌, drop}
use Rattle.refute_check.specs.Marks.{values_at}
use Rattle.refute_check.specs.Steps.{judgement}
use Rattle.refute_check.proofs.hints.follow.Given as goal

abbrev pub invariant-loop-index : goal.invariant-loop-index
invariant-loop-index l =
    (judgement (values_at l.number l.marks) (drop l.index l.clause) ≡ judgement (values_at l.number l.marks) l.clause) × (l.marks ≡ l.initial.marks)
