use Rattle.std.proofs.Common.{◌≡◌, Bool, IsTrue, List, [], ◌∷◌}
use Rattle.cond_formula.specs.Features.{has}
use Rattle.cond_formula.specs.Conditions.{condition_of, value}
use Rattle.conditional.specs.Entries.{seen, under}
use Rattle.declarator_lists.specs.Entries.{entries_at, heads_at}
use Rattle.declarator_lists.proofs.Parts.{BegunSoFar}
use Rattle.declarator_lists.proofs.beginnings.heads.Given as goal

abbrev pub invariant-loop-place : goal.invariant-loop-place
invariant-loop-place g l = record {
  kept : g.O.Oracle.admits l.oracle ≡ g.O.Oracle.admits l.fn.oracle;
  begun : (n : List Bool) → IsTrue (value (has n) (g.O.Oracle.admits l.fn.oracle))
      → BegunSoFar (has n) l.list l.place (condition_of l.left) (seen (has n) (heads_at (has n) l.all.items))
      (under (value (has n) (condition_of l.when)) (seen (has n) (entries_at (has n) l.list) ∷ []));
}
