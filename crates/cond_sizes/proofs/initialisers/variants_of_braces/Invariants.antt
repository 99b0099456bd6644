use Rattle.std.proofs.Common.{◌≡◌, Bool, IsTrue, List}
use Rattle.cond_formula.specs.Features.{has}
use Rattle.cond_formula.specs.Conditions.{value}
use Rattle.conditional.specs.Entries.{Stands}
use Rattle.c_types.specs.Types.{PlainType}
use Rattle.c_tree.specs.declared.kinds.Kind.TheVariants.{Braces}
use Rattle.c_tree.specs.Trees.{PlainTrees, none, node}
use Rattle.choice_variants.specs.Variants.{variant_before, shown}
use Rattle.core_meaning.specs.Constancy.{count_by_initialiser}
use Rattle.cond_sizes.specs.Sizes.{given}
use Rattle.cond_sizes.proofs.Placing.{PlacedSoFar}
use Rattle.cond_sizes.proofs.initialisers.variants_of_braces.Given as goal

abbrev pub invariant-loop-variant : goal.invariant-loop-variant
invariant-loop-variant g l = record {
  kept : g.O.Oracle.admits l.oracle ≡ g.O.Oracle.admits l.fn.oracle;
  so_far : (n : List Bool) (element : PlainType) (parts : PlainTrees) → IsTrue (value (has n) (g.O.Oracle.admits l.fn.oracle)) → Stands (has n) parts (shown (has n) l.variants)
      → PlacedSoFar (has n) (variant_before (has n) none) l.variants parts (given (count_by_initialiser element (node Braces parts))) l.variant-index l.all;
}
