use Rattle.std.proofs.Common.{◌≡◌, Bool, IsTrue, List, [], ◌∷◌, drop}
use Rattle.cond_formula.specs.Features.{has}
use Rattle.cond_formula.specs.Conditions.{value}
use Rattle.conditional.specs.Entries.{seen}
use Rattle.choice_trees.specs.ChoiceTrees.{plain_choices, parts_at}
use Rattle.choice_trees.specs.Depths.{choices_depth}
use Rattle.choice_variants.specs.Variants.{followed, AreAllLow}
use Rattle.choice_variants.proofs.nodes.variants.Given as goal

abbrev pub invariant-loop-place : goal.invariant-loop-place
invariant-loop-place g l = record {
  kept : g.O.Oracle.admits l.oracle ≡ g.O.Oracle.admits l.fn.oracle;
  alone : (n : List Bool) → IsTrue (value (has n) (g.O.Oracle.admits l.fn.oracle))
      → seen (has n) (followed (has n) (parts_at (has n) l.kind l.place (plain_choices (drop l.place l.parts))) l.all.items) ≡ parts_at (has n) l.kind 0 (plain_choices l.parts) ∷ [];
  low : AreAllLow (choices_depth (plain_choices l.parts)) l.all.items;
}
