use Rattle.std.proofs.Common.{◌≡◌, drop}
use Rattle.refute_check.specs.Marks.{values_at, UpTo, taken}
use Rattle.refute_check.proofs.marks.take_clause_false.Given as goal

abbrev pub invariant-loop-literal : goal.invariant-loop-literal
invariant-loop-literal l =
    (taken l.vars (values_at l.number l.marks) (drop l.literal-index l.clause) ≡ taken l.vars (values_at l.number l.initial.marks) l.clause) × (UpTo l.number l.initial.marks → UpTo l.number l.marks)
