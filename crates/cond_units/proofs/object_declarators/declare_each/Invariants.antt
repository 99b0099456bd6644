use Rattle.std.proofs.Common.{◌≡◌, ℕ, Bool, IsTrue, List, [], ◌∷◌, map, drop}
use Rattle.cond_formula.specs.Features.{has}
use Rattle.cond_formula.specs.Conditions.{condition_of, value}
use Rattle.conditional.specs.Entries.{seen}
use Rattle.c_tree.specs.Trees.{PlainTree}
use Rattle.choice_expansions.specs.Expansions.{plain_expansion, expanded}
use Rattle.plain_objects.specs.PlainStates.{plain_storage}
use Rattle.conditional_steps.specs.Here.{Unchanged}
use Rattle.conditional_steps.proofs.Alternatives.{Alternates}
use Rattle.cond_units.specs.Seen.{seen_unit, initialiser_at}
use Rattle.cond_units.specs.Declaring.{IsInitialiser, object_in, Declares}
use Rattle.cond_units.proofs.object_declarators.declare_each.Given as goal

abbrev pub invariant-loop-expansion : goal.invariant-loop-expansion
invariant-loop-expansion g l = record {
  kept : g.O.Oracle.admits l.oracle ≡ g.O.Oracle.admits l.fn.oracle;
  so_far : (n : List Bool) (globals : ℕ) (tree : PlainTree) → IsTrue (value (has n) (g.O.Oracle.admits l.fn.oracle)) → seen (has n) (expanded l.expansions) ≡ tree ∷ []
      → Alternates Unchanged (λ tree. Declares (has n) l.base (object_in globals (plain_storage l.declaration.storage) tree (initialiser_at (has n) l.declaration) (g.B.Behind.rest l.declaration.behind.now n))
      (IsInitialiser (initialiser_at (has n) l.declaration))) tree (seen_unit (has n) l.fn.unit) (value (has n) (condition_of l.when))
      (seen (has n) (map plain_expansion (drop l.expansion-index l.expansions))) (seen_unit (has n) l.unit) (value (has n) (condition_of l.refused));
}
