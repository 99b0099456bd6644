use Rattle.std.proofs.Common.{◌≡◌, Bool, IsTrue, List}
use Rattle.cond_formula.specs.Features.{has}
use Rattle.cond_formula.specs.Conditions.{value}
use Rattle.conditional.specs.Entries.{seen}
use Rattle.declarator_lists.specs.Entries.{listed_at}
use Rattle.declarator_lists.proofs.Declarators.{DeclaredSoFar}
use Rattle.declarator_lists.proofs.listed.listed_declarators.Given as goal

abbrev pub invariant-loop-place : goal.invariant-loop-place
invariant-loop-place g l = record {
  kept : g.O.Oracle.admits l.oracle ≡ g.O.Oracle.admits l.fn.oracle;
  so_far : (n : List Bool) → IsTrue (value (has n) (g.O.Oracle.admits l.fn.oracle))
      → DeclaredSoFar (has n) l.entry-items l.place (seen (has n) (listed_at (has n) l.all.items));
}
