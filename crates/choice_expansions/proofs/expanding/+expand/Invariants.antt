use Rattle.std.proofs.Common.{◌≡◌, ◌+◌, ◌*◌, Bool, IsTrue, List, [], ◌∷◌, ◌++◌, drop}
use Rattle.cond_formula.specs.Features.{has}
use Rattle.cond_formula.specs.Conditions.{condition_of, value}
use Rattle.conditional.specs.Entries.{seen, under}
use Rattle.c_tree.specs.Trees.{none}
use Rattle.choice_trees.specs.ChoiceTrees.{plain_item, plain_choices}
use Rattle.choice_trees.specs.Depths.{depth, choices_depth}
use Rattle.choice_variants.specs.Variants.{before, shown, part_depth}
use Rattle.choice_expansions.specs.Expansions.{rows_before}
use Rattle.choice_expansions.proofs.Deep.{parts_depth, variants_depth}
use Rattle.choice_expansions.proofs.expanding.+expand.Given as goal

abbrev pub invariant-rows_of-loop-variant : goal.invariant-rows_of-loop-variant
invariant-rows_of-loop-variant g l = record {
  kept : g.O.Oracle.admits l.oracle ≡ g.O.Oracle.admits l.fn.oracle;
  so_far : (n : List Bool) → IsTrue (value (has n) (g.O.Oracle.admits l.fn.oracle))
      → seen (has n) (rows_before none l.all.items) ++ seen (has n) (shown (has n) (drop l.variant-index l.variants)) ≡ seen (has n) (shown (has n) l.variants);
}

abbrev pub invariant-rows_of_variant-loop-part : goal.invariant-rows_of_variant-loop-part
invariant-rows_of_variant-loop-part g l = record {
  kept : g.O.Oracle.admits l.oracle ≡ g.O.Oracle.admits l.fn.oracle;
  so_far : (n : List Bool) → IsTrue (value (has n) (g.O.Oracle.admits l.fn.oracle))
      → seen (has n) (rows_before (before (has n) (drop l.part-index l.part-items) none) l.rows.items)
      ≡ under (value (has n) (condition_of l.variant.when)) (before (has n) l.part-items none ∷ []);
}

abbrev pub decreases-item_expanded : goal.decreases-item_expanded
decreases-item_expanded g a = 5 * depth (plain_item a.item.now)

abbrev pub decreases-part_expanded : goal.decreases-part_expanded
decreases-part_expanded g a = 5 * part_depth a.part.now + 1

abbrev pub decreases-rows_of_variant : goal.decreases-rows_of_variant
decreases-rows_of_variant g a = 5 * parts_depth a.variant.now.parts.items + 2

abbrev pub decreases-rows_of : goal.decreases-rows_of
decreases-rows_of g a = 5 * variants_depth a.variants.now + 3

abbrev pub decreases-node_expanded : goal.decreases-node_expanded
decreases-node_expanded g a = 5 * choices_depth (plain_choices a.parts.now) + 4
