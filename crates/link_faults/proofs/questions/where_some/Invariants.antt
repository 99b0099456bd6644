use Rattle.std.proofs.Common.{◌≡◌, ℕ, Bool, ◌||◌, drop}
use Rattle.std.specs.List.{list_any}
use Rattle.cond_formula.specs.Conditions.{condition_of, value}
use Rattle.link_faults.specs.SeenUnits.{units_seen}
use Rattle.link_faults.proofs.questions.where_some.Given as goal

abbrev pub invariant-loop-left : goal.invariant-loop-left
invariant-loop-left g l = (on : ℕ → Bool) →
    (value on (condition_of l.so_far) || list_any (g.Q.Question.asks l.question on) (units_seen on l.tables (drop l.left-index l.units)))
    ≡ list_any (g.Q.Question.asks l.question on) (units_seen on l.tables l.units)
