use Rattle.std.proofs.Common.{◌≡◌, ◌≤◌, length, drop}
use Rattle.core_meaning.specs.Linking as spec
use Rattle.plain_link.proofs.order.is_lesser.Given as goal

abbrev pub invariant-loop-i : goal.invariant-loop-i
invariant-loop-i l =
    (l.i ≤ length l.b) × (spec.is_lesser (drop l.i l.a) (drop l.i l.b) ≡ spec.is_lesser l.a l.b)
