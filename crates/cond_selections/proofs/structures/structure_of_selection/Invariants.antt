use Rattle.std.proofs.Common.{◌≡◌, Bool, IsTrue, List}
use Rattle.cond_formula.specs.Features.{has}
use Rattle.cond_formula.specs.Conditions.{value}
use Rattle.c_tree.specs.declared.kinds.Kind.TheVariants as k
use Rattle.choice_trees.specs.ChoiceTrees.{plain_choices, parts_at}
use Rattle.cond_typing.proofs.VariantsPlaced.{PlacedSoFar}
use Rattle.cond_selections.proofs.Behind.{outcome_of, ShowsSoFar}
use Rattle.cond_selections.proofs.structures.structure_of_selection.Given as goal

abbrev pub invariant-loop-variant : goal.invariant-loop-variant
invariant-loop-variant g l = record {
  kept : g.O.Oracle.admits l.oracle ≡ g.O.Oracle.admits l.fn.oracle;
  so_far : (n : List Bool) → IsTrue (value (has n) (g.K.Knowledge.admits l.known)) → IsTrue (value (has n) (g.O.Oracle.admits l.fn.oracle)) →
      PlacedSoFar (has n) (outcome_of (g.K.Knowledge.known l.known n))
      (λ held all. ShowsSoFar (has n) (outcome_of (g.K.Knowledge.known l.known n) (parts_at (has n) k.Selection 0 (plain_choices l.parts))) held all)
      (parts_at (has n) k.Selection 0 (plain_choices l.parts)) l.variant-items l.variant-index l.all;
}
