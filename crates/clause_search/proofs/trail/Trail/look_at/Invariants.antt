use Rattle.std.proofs.Common.{◌≡◌, drop}
use Rattle.refute_check.specs.Steps.{judgement}
use Rattle.clause_search.specs.Known.{known_of}
use Rattle.clause_search.proofs.trail.Trail.look_at.Given as goal

abbrev pub invariant-loop-index : goal.invariant-loop-index
invariant-loop-index l =
    (judgement l.self.values.items (drop l.index l.clause) ≡ judgement l.self.values.items l.clause) × (known_of l.self ≡ known_of l.initial.self)
