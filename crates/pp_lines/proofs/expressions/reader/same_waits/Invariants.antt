use Rattle.std.proofs.Common.{◌≡◌, map, drop}
use Rattle.pp_lines.specs.ExpressionView.{pending_view}
use Rattle.pp_lines.proofs.expressions.reader.same_waits.Given as goal

abbrev pub invariant-loop-i : goal.invariant-loop-i
invariant-loop-i l =
    map pending_view (drop l.i l.waits) ≡ map pending_view (drop l.i l.others) → map pending_view l.waits ≡ map pending_view l.others
