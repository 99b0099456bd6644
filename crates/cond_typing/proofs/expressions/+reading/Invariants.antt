use Rattle.std.proofs.Common.{◌≡◌, ◌+◌, ◌*◌, Bool, IsTrue, List, [], ◌∷◌, drop}
use Rattle.cond_formula.specs.Features.{has}
use Rattle.cond_formula.specs.Conditions.{value}
use Rattle.c_tree.specs.Trees.{none}
use Rattle.c_tree.specs.declared.kinds.Kind.TheVariants as k
use Rattle.choice_trees.specs.ChoiceTrees.{plain_item, plain_branches, plain_choices, parts_at}
use Rattle.choice_trees.specs.Depths.{depth, branches_depth, choices_depth}
use Rattle.choice_variants.specs.Variants.{before, part_depth}
use Rattle.cond_typing.specs.Readings.{node_of, arguments_in}
use Rattle.cond_typing.specs.Progress.{ShowsSoFar, ArgumentSoFar}
use Rattle.cond_typing.proofs.PartsBehindParts.{parts_depth, PartsSoFar}
use Rattle.cond_typing.proofs.VariantsPlaced.{PlacedSoFar}
use Rattle.cond_typing.proofs.ArgumentsPlaced.{ArgumentsSoFar}
use Rattle.cond_typing.proofs.expressions.+reading.Given as goal

abbrev pub decreases-read_node : goal.decreases-read_node
decreases-read_node g a = 8 * choices_depth (plain_choices a.parts.now) + 6

abbrev pub decreases-read_variants : goal.decreases-read_variants
decreases-read_variants g a = 8 * choices_depth (plain_choices a.parts.now) + 5

abbrev pub decreases-read_variant : goal.decreases-read_variant
decreases-read_variant g a = 8 * parts_depth a.parts.now + 4

abbrev pub decreases-read_parts : goal.decreases-read_parts
decreases-read_parts g a = 8 * parts_depth a.parts.now + 3

abbrev pub decreases-push_part : goal.decreases-push_part
decreases-push_part g a = 8 * part_depth a.part.now + 2

abbrev pub decreases-push_item : goal.decreases-push_item
decreases-push_item g a = 8 * depth (plain_item a.item.now) + 1

abbrev pub decreases-push_node : goal.decreases-push_node
decreases-push_node g a = 8 * choices_depth (plain_choices a.parts.now) + 8

abbrev pub decreases-read_arguments : goal.decreases-read_arguments
decreases-read_arguments g a = 8 * choices_depth (plain_choices a.parts.now) + 7

abbrev pub decreases-read_argument : goal.decreases-read_argument
decreases-read_argument g a = 8 * branches_depth (plain_branches a.choice.now.branches.items) + 5

abbrev pub invariant-read_variants-loop-variant : goal.invariant-read_variants-loop-variant
invariant-read_variants-loop-variant g l = record {
  kept : g.O.Oracle.admits l.oracle ≡ g.O.Oracle.admits l.fn.oracle;
  so_far : (n : List Bool) → IsTrue (value (has n) (g.K.Knowledge.admits l.known)) → IsTrue (value (has n) (g.O.Oracle.admits l.fn.oracle)) →
      PlacedSoFar (has n) (node_of (g.K.Knowledge.known l.known n) l.kind)
      (λ held all. ShowsSoFar (has n) (g.K.Knowledge.callable l.known n) (node_of (g.K.Knowledge.known l.known n) l.kind (parts_at (has n) l.kind 0 (plain_choices l.parts))) held all)
      (parts_at (has n) l.kind 0 (plain_choices l.parts)) l.variant-items l.variant-index l.all;
}

abbrev pub invariant-read_parts-loop-part : goal.invariant-read_parts-loop-part
invariant-read_parts-loop-part g l = record {
  kept : g.O.Oracle.admits l.oracle ≡ g.O.Oracle.admits l.fn.oracle;
  so_far : (n : List Bool) → IsTrue (value (has n) (g.K.Knowledge.admits l.known)) → IsTrue (value (has n) (g.O.Oracle.admits l.fn.oracle)) →
      PartsSoFar (g.K.Knowledge.known l.known n) (has n) (g.K.Knowledge.callable l.known n) l.kind (before (has n) l.parts none) (before (has n) (drop l.part-index l.parts) none) l.all;
}

abbrev pub invariant-read_arguments-loop-part : goal.invariant-read_arguments-loop-part
invariant-read_arguments-loop-part g l = record {
  kept : g.O.Oracle.admits l.oracle ≡ g.O.Oracle.admits l.fn.oracle;
  so_far : (n : List Bool) → IsTrue (value (has n) (g.K.Knowledge.admits l.known)) → IsTrue (value (has n) (g.O.Oracle.admits l.fn.oracle)) →
      ArgumentsSoFar (has n) (g.K.Knowledge.known l.known n) l.parts l.part-index l.all.items;
}

abbrev pub invariant-read_argument-loop-variant : goal.invariant-read_argument-loop-variant
invariant-read_argument-loop-variant g l = record {
  kept : g.O.Oracle.admits l.oracle ≡ g.O.Oracle.admits l.fn.oracle;
  so_far : (n : List Bool) → IsTrue (value (has n) (g.K.Knowledge.admits l.known)) → IsTrue (value (has n) (g.O.Oracle.admits l.fn.oracle)) →
      PlacedSoFar (has n) (arguments_in (g.K.Knowledge.known l.known n))
      (λ held all. ArgumentSoFar (has n) (arguments_in (g.K.Knowledge.known l.known n) (parts_at (has n) k.Arguments 0 (plain_choices (l.choice ∷ [])))) held all)
      (parts_at (has n) k.Arguments 0 (plain_choices (l.choice ∷ []))) l.variant-items l.variant-index l.all;
}
