use Rattle.std.proofs.Common.{◌≡◌, Bool, IsTrue, List, [], ◌∷◌, map, drop}
use Rattle.cond_formula.specs.Features.{has}
use Rattle.cond_formula.specs.Conditions.{condition_of, value}
use Rattle.conditional.specs.Entries.{seen}
use Rattle.c_tree.specs.Trees.{PlainTrees, none}
use Rattle.choice_trees.specs.ChoiceTrees.{plain_item, item_at}
use Rattle.choice_variants.specs.Variants.{variant_before, shown}
use Rattle.conditional_steps.proofs.Alternatives.{Alternates}
use Rattle.cond_units.specs.Seen.{seen_unit}
use Rattle.cond_units.specs.Where.{Stays}
use Rattle.cond_units.specs.Items.{DeclaresItem}
use Rattle.cond_types.specs.Functions.{listed_definition, IsListedDefinition}
use Rattle.cond_types.proofs.functions.define_each.Given as goal

abbrev pub invariant-loop-variant : goal.invariant-loop-variant
invariant-loop-variant g l = record {
  kept : g.O.Oracle.admits l.oracle ≡ g.O.Oracle.admits l.fn.oracle;
  so_far : (n : List Bool) (list : PlainTrees) → IsTrue (value (has n) (g.O.Oracle.admits l.fn.oracle)) → seen (has n) (shown (has n) l.variants) ≡ list ∷ []
      → Alternates Stays (λ list. DeclaresItem (listed_definition (item_at (has n) (plain_item l.around.words.now)) (item_at (has n) (plain_item l.around.body.now)) list) (IsListedDefinition (item_at (has n) (plain_item l.around.body.now)) list)) list
      (seen_unit (has n) l.fn.unit) (value (has n) (condition_of l.when)) (seen (has n) (map (variant_before (has n) none) (drop l.variant-index l.variants))) (seen_unit (has n) l.unit) (value (has n) (condition_of l.refused));
}
