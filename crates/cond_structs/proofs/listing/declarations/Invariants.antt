use Rattle.std.proofs.Common.{◌≡◌, Bool, List, IsTrue, ◌++◌, drop}
use Rattle.cond_formula.specs.Features.{has}
use Rattle.cond_formula.specs.Conditions.{value}
use Rattle.conditional.specs.Entries.{seen}
use Rattle.declarator_lists.specs.Entries.{entries_at}
use Rattle.cond_structs.specs.Walks.{declarations_in}
use Rattle.cond_structs.specs.Listing.{declarations_at}
use Rattle.cond_structs.proofs.listing.declarations.Given as goal

abbrev pub invariant-loop-entry : goal.invariant-loop-entry
invariant-loop-entry g l = record {
  kept : g.O.Oracle.admits l.oracle ≡ g.O.Oracle.admits l.fn.oracle;
  seen : (n : List Bool) → IsTrue (value (has n) (g.O.Oracle.admits l.fn.oracle))
      → seen (has n) (declarations_at (has n) l.all.items) ++ declarations_in (seen (has n) (entries_at (has n) (drop l.entry-index l.entry-items))) ≡ declarations_in (seen (has n) (entries_at (has n) l.entry-items));
}
