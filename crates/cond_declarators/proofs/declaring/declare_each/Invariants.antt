use Rattle.std.proofs.Common.{◌≡◌, ℕ, Bool, false, IsTrue, List, [], ◌∷◌, map, drop}
use Rattle.cond_formula.specs.Features.{has}
use Rattle.cond_formula.specs.Conditions.{condition_of, value}
use Rattle.conditional.specs.Entries.{seen}
use Rattle.c_tree.specs.Trees.{PlainTree}
use Rattle.choice_expansions.specs.Expansions.{plain_expansion, expanded}
use Rattle.core_meaning.specs.Entities.{Scope}
use Rattle.type_tables.specs.Seen.{seen_tables}
use Rattle.type_tables.specs.Follows.{Follows}
use Rattle.cond_declarators.proofs.StructsDeclared.{DeclaredSoFar}
use Rattle.cond_declarators.proofs.declaring.declare_each.Given as goal

abbrev pub invariant-loop-expansion : goal.invariant-loop-expansion
invariant-loop-expansion g l = record {
  kept : g.O.Oracle.admits l.oracle ≡ g.O.Oracle.admits l.fn.oracle;
  elsewhere : (on : ℕ → Bool) → value on (condition_of l.when) ≡ false → seen_tables on l.tables ≡ seen_tables on l.fn.tables;
  so_far : (n : List Bool) (scope : Scope) (f : Follows (seen_tables (has n) l.fn.tables) scope) (words : PlainTree) → IsTrue (value (has n) (g.O.Oracle.admits l.fn.oracle))
      → IsTrue (value (has n) (condition_of l.when)) → seen (has n) (expanded l.expansions) ≡ words ∷ []
      → DeclaredSoFar (has n) words scope (seen_tables (has n) l.fn.tables) f (map plain_expansion (drop l.expansion-index l.expansions)) (seen_tables (has n) l.tables) l.all;
}
