use Rattle.std.proofs.Common.{◌≡◌, Bool, IsTrue, List, [], ◌∷◌}
use Rattle.cond_formula.specs.Features.{has}
use Rattle.cond_formula.specs.Conditions.{value}
use Rattle.c_tree.specs.declared.kinds.Kind.TheVariants as k
use Rattle.choice_trees.specs.ChoiceTrees.{plain_choices, parts_at}
use Rattle.cond_typing.specs.Readings.{first_read}
use Rattle.cond_typing.specs.Progress.{ShowsSoFar}
use Rattle.cond_typing.proofs.VariantsPlaced.{PlacedSoFar}
use Rattle.cond_typing.proofs.expressions.read_choice.Given as goal

abbrev pub invariant-loop-variant : goal.invariant-loop-variant
invariant-loop-variant g l = record {
  kept : g.O.Oracle.admits l.oracle ≡ g.O.Oracle.admits l.fn.oracle;
  so_far : (n : List Bool) → IsTrue (value (has n) (g.K.Knowledge.admits l.known)) → IsTrue (value (has n) (g.O.Oracle.admits l.fn.oracle)) →
      PlacedSoFar (has n) (first_read (g.K.Knowledge.known l.known n))
      (λ held all. ShowsSoFar (has n) (g.K.Knowledge.callable l.known n) (first_read (g.K.Knowledge.known l.known n) (parts_at (has n) k.Parenthesized 0 (plain_choices (l.choice ∷ [])))) held all)
      (parts_at (has n) k.Parenthesized 0 (plain_choices (l.choice ∷ []))) l.variant-items l.variant-index l.all;
}
