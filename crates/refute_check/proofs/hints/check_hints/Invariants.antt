use Rattle.std.proofs.Common.{◌≡◌, drop}
use Rattle.refute_check.specs.Marks.{values_at, UpTo}
use Rattle.refute_check.specs.Entries.{clauses_of}
use Rattle.refute_check.specs.Storage.{entries_in}
use Rattle.refute_check.specs.Steps.{hints_fault}
use Rattle.refute_check.proofs.hints.check_hints.Given as goal

abbrev pub invariant-loop-index : goal.invariant-loop-index
invariant-loop-index l =
    (hints_fault (clauses_of (entries_in l.literals l.clauses)) (values_at l.number l.marks) (drop l.index l.hints) ≡ hints_fault (clauses_of (entries_in l.literals l.clauses)) (values_at l.number l.initial.marks) l.hints) × (UpTo l.number l.initial.marks → UpTo l.number l.marks)
