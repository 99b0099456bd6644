use Rattle.std.proofs.Common.{◌≡◌, ℕ, Bool, false, IsTrue, List}
use Rattle.cond_formula.specs.Features.{has}
use Rattle.cond_formula.specs.Conditions.{value}
use Rattle.conditional.specs.Entries.{seen}
use Rattle.c_tree.specs.declared.kinds.Kind.{Kind}
use Rattle.choice_trees.specs.ChoiceTrees.{needs_statement}
use Rattle.declarator_lists.specs.Entries.{entries_at}
use Rattle.declarator_lists.proofs.Parts.{ListedSoFar}
use Rattle.declarator_lists.proofs.items.entries.Given as goal

abbrev pub invariant-loop-choice : goal.invariant-loop-choice
invariant-loop-choice g l = record {
  kept : g.O.Oracle.admits l.oracle ≡ g.O.Oracle.admits l.fn.oracle;
  listed : (n : List Bool) (kind : Kind) → IsTrue (value (has n) (g.O.Oracle.admits l.fn.oracle)) → (no_statement : (place : ℕ) → needs_statement kind place ≡ false)
      → ListedSoFar (has n) kind no_statement l.list l.choice-index (seen (has n) (entries_at (has n) l.all.items));
}
