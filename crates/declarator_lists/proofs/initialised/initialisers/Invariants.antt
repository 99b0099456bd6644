use Rattle.std.proofs.Common.{◌≡◌, Bool, IsTrue, List, []}
use Rattle.cond_formula.specs.Features.{has}
use Rattle.cond_formula.specs.Conditions.{value}
use Rattle.conditional.specs.Entries.{seen}
use Rattle.declarator_lists.specs.Lists.{initialiser_in}
use Rattle.declarator_lists.specs.Entries.{head_at, all_initialised_at}
use Rattle.declarator_lists.proofs.Pushing.{SoFar}
use Rattle.declarator_lists.proofs.initialised.initialisers.Given as goal

abbrev pub invariant-loop-head : goal.invariant-loop-head
invariant-loop-head g l = record {
  kept : g.O.Oracle.admits l.oracle ≡ g.O.Oracle.admits l.fn.oracle;
  so_far : (n : List Bool) → IsTrue (value (has n) (g.O.Oracle.admits l.fn.oracle))
      → SoFar (has n) (head_at (has n)) initialiser_in l.head-items [] l.head-index (seen (has n) (all_initialised_at (has n) l.all.items));
}
