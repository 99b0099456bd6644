use Rattle.std.proofs.Common.{◌≡◌, Bool, IsTrue, List}
use Rattle.cond_formula.specs.Features.{has}
use Rattle.cond_formula.specs.Conditions.{value}
use Rattle.declarator_lists.proofs.Declarators.{SteppedTo}
use Rattle.declarator_lists.proofs.stepping.for_each_declarator.Given as goal

abbrev pub invariant-loop-place : goal.invariant-loop-place
invariant-loop-place g l = record {
  kept : g.O.Oracle.admits l.oracle ≡ g.O.Oracle.admits l.fn.oracle;
  so_far : (n : List Bool) (m : g.S.StepOnDeclarator.Meaning) → IsTrue (value (has n) (g.O.Oracle.admits l.fn.oracle)) → g.S.StepOnDeclarator.means l.fn.state n m
      → (now : g.S.StepOnDeclarator.Meaning) × g.S.StepOnDeclarator.means l.state n now
      × SteppedTo (has n) g.S.StepOnDeclarator.next l.entry-items m l.place now;
}
