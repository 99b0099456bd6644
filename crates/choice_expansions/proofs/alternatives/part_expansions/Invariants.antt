use Rattle.std.proofs.Common.{◌≡◌, Bool, IsTrue, List}
use Rattle.cond_formula.specs.Features.{has}
use Rattle.cond_formula.specs.Conditions.{condition_of, value}
use Rattle.conditional.specs.Entries.{seen}
use Rattle.choice_expansions.specs.Expansions.{parts_expanded}
use Rattle.choice_expansions.proofs.Choosing.{ChosenSoFar}
use Rattle.choice_expansions.proofs.alternatives.part_expansions.Given as goal

abbrev pub invariant-loop-when : goal.invariant-loop-when
invariant-loop-when g l = record {
  kept : g.O.Oracle.admits l.oracle ≡ g.O.Oracle.admits l.fn.oracle;
  chosen : (n : List Bool) → IsTrue (value (has n) (g.O.Oracle.admits l.fn.oracle))
      → ChosenSoFar (has n) l.when-items l.when-index (condition_of l.left) (seen (has n) (parts_expanded l.all.items));
}
