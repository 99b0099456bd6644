use Rattle.std.proofs.Common.{◌≡◌, Bool, IsTrue, List}
use Rattle.cond_formula.specs.Features.{has}
use Rattle.cond_formula.specs.Conditions.{value}
use Rattle.choice_variants.specs.Variants.{variant_before}
use Rattle.c_tree.specs.Trees.{none}
use Rattle.choice_expansions.proofs.StepByStep.{still}
use Rattle.choice_expansions.proofs.stepping.step_on_all.Given as goal

abbrev pub invariant-loop-variant : goal.invariant-loop-variant
invariant-loop-variant g l = record {
  kept : g.O.Oracle.admits l.oracle ≡ g.O.Oracle.admits l.fn.oracle;
  -- the state is one of which the rest makes what all make of the first one
  so_far : (n : List Bool) (m : g.S.StepOnParts.Meaning) → IsTrue (value (has n) (g.O.Oracle.admits l.fn.oracle)) → g.S.StepOnParts.means l.fn.state n m
      → (now : g.S.StepOnParts.Meaning) × g.S.StepOnParts.means l.state n now × (still (has n) g.S.StepOnParts.next (variant_before (has n) none) l.all 0 m ≡ still (has n) g.S.StepOnParts.next (variant_before (has n) none) l.all l.variant-index now);
}
