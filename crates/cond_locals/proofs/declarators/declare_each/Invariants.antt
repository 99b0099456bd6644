use Rattle.std.proofs.Common.{◌≡◌, Bool, IsTrue, List, [], ◌∷◌, map, drop}
use Rattle.std.specs.Prelude.{option_map}
use Rattle.cond_formula.specs.Features.{has}
use Rattle.cond_formula.specs.Conditions.{condition_of, value}
use Rattle.conditional.specs.Entries.{seen}
use Rattle.c_tree.specs.Trees.{PlainTree}
use Rattle.choice_trees.specs.ChoiceTrees.{plain_item, item_at}
use Rattle.choice_expansions.specs.Expansions.{plain_expansion, expanded}
use Rattle.core_meaning.specs.Declarations.{one_local}
use Rattle.type_tables.specs.Seen.{seen_tables}
use Rattle.type_tables.specs.Blocks.{OnlyLocals}
use Rattle.cond_locals.specs.Declaring.{IsInitialiser, Declares}
use Rattle.conditional_steps.specs.Here.{Unchanged}
use Rattle.conditional_steps.proofs.Alternatives.{Alternates}
use Rattle.cond_locals.proofs.declarators.declare_each.Given as goal

abbrev pub invariant-loop-expansion : goal.invariant-loop-expansion
invariant-loop-expansion g l = record {
  kept : g.O.Oracle.admits l.oracle ≡ g.O.Oracle.admits l.fn.oracle;
  outside : OnlyLocals l.fn.tables l.tables;
  so_far : (n : List Bool) (tree : PlainTree) → IsTrue (value (has n) (g.O.Oracle.admits l.fn.oracle)) → seen (has n) (expanded l.expansions) ≡ tree ∷ []
      → Alternates Unchanged (λ tree. Declares (has n) l.base (λ scope slots ty. one_local scope slots ty tree (option_map (λ item. item_at (has n) (plain_item item.now)) l.initialiser))
      (λ scope. IsInitialiser (option_map (λ item. item_at (has n) (plain_item item.now)) l.initialiser))) tree (seen_tables (has n) l.fn.tables) (value (has n) (condition_of l.when))
      (seen (has n) (map plain_expansion (drop l.expansion-index l.expansions))) (seen_tables (has n) l.tables) (value (has n) (condition_of l.refused));
}
