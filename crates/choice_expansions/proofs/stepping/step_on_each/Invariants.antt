use Rattle.std.proofs.Common.{◌≡◌, Bool, IsTrue, List}
use Rattle.cond_formula.specs.Features.{has}
use Rattle.cond_formula.specs.Conditions.{value}
use Rattle.choice_expansions.specs.Expansions.{plain_expansion}
use Rattle.choice_expansions.proofs.StepByStep.{still}
use Rattle.choice_expansions.proofs.stepping.step_on_each.Given as goal

abbrev pub invariant-loop-expansion : goal.invariant-loop-expansion
invariant-loop-expansion g l = record {
  kept : g.O.Oracle.admits l.oracle ≡ g.O.Oracle.admits l.fn.oracle;
  -- the state is one of which the rest makes what all make of the first one
  so_far : (n : List Bool) (m : g.S.StepOnTree.Meaning) → IsTrue (value (has n) (g.O.Oracle.admits l.fn.oracle)) → g.S.StepOnTree.means l.fn.state n m
      → (now : g.S.StepOnTree.Meaning) × g.S.StepOnTree.means l.state n now × (still (has n) g.S.StepOnTree.next plain_expansion l.all 0 m ≡ still (has n) g.S.StepOnTree.next plain_expansion l.all l.expansion-index now);
}
