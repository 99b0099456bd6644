use Rattle.std.proofs.Common.{ℕ, Bool}
use Rattle.cond_formula.specs.Conditions.{condition_of, value}
use Rattle.cond_initialisers.specs.Rows.{plain_types, numbers}
use Rattle.cond_initialisers.proofs.Members.{MembersSoFar}
use Rattle.cond_initialisers.proofs.places.members.Given as goal

abbrev pub invariant-loop-member : goal.invariant-loop-member
invariant-loop-member l = (on : ℕ → Bool) → MembersSoFar on (value on (condition_of l.s.complete)) l.member-items l.member-index (plain_types l.types.items) (numbers on l.parts.items)
