use Rattle.std.proofs.Common.{◌≡◌, vec_len}
use Rattle.pp_lines.specs.ExpressionReading as reading
use Rattle.pp_lines.specs.ExpressionReading.{outcomes}
use Rattle.pp_lines.specs.ExpressionView.{outcome_view, waits_view}
use Rattle.pp_lines.proofs.expressions.reader.settled.Given as goal

abbrev pub invariant-loop-pending : goal.invariant-loop-pending
invariant-loop-pending l =
    reading.settled outcomes l.level (outcome_view l.last) (waits_view l.waits)
    ≡ reading.settled outcomes l.level (outcome_view l.initial.last) (waits_view l.initial.waits)

abbrev pub decreases-loop-pending : goal.decreases-loop-pending
decreases-loop-pending l = vec_len l.waits
