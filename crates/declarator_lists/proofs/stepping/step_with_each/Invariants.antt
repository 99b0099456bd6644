use Rattle.std.proofs.Common.{◌≡◌, Bool, IsTrue, List}
use Rattle.cond_formula.specs.Features.{has}
use Rattle.cond_formula.specs.Conditions.{value}
use Rattle.choice_trees.specs.ChoiceTrees.{plain_item, item_at}
use Rattle.choice_expansions.proofs.StepByStep.{still}
use Rattle.declarator_lists.specs.Lists.{with_initialiser}
use Rattle.declarator_lists.specs.Entries.{initialised_at}
use Rattle.declarator_lists.proofs.stepping.step_with_each.Given as goal

abbrev pub invariant-loop-initialised : goal.invariant-loop-initialised
invariant-loop-initialised g l = record {
  kept : g.O.Oracle.admits l.oracle ≡ g.O.Oracle.admits l.fn.oracle;
  -- the state is one of which the rest makes what all make of the first one
  so_far : (n : List Bool) (m : g.S.StepOnDeclarator.Meaning) → IsTrue (value (has n) (g.O.Oracle.admits l.fn.oracle)) → g.S.StepOnDeclarator.means l.fn.state n m
      → (now : g.S.StepOnDeclarator.Meaning) × g.S.StepOnDeclarator.means l.state n now
      × (still (has n) (with_initialiser g.S.StepOnDeclarator.next (item_at (has n) (plain_item l.declarator))) (initialised_at (has n)) l.all 0 m
      ≡ still (has n) (with_initialiser g.S.StepOnDeclarator.next (item_at (has n) (plain_item l.declarator))) (initialised_at (has n)) l.all l.initialised-index now);
}
