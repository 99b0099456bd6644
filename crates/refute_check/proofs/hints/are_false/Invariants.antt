use Rattle.std.proofs.Common.{◌≡◌, drop}
use Rattle.refute_check.specs.Marks.{values_at}
use Rattle.refute_check.specs.Steps.{all_false}
use Rattle.refute_check.proofs.hints.are_false.Given as goal

abbrev pub invariant-loop-literal : goal.invariant-loop-literal
invariant-loop-literal l =
    all_false (values_at l.number l.marks) (drop l.literal-index l.clause) ≡ all_false (values_at l.number l.marks) l.clause
