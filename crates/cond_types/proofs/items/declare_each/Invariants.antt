use Rattle.std.proofs.Common.{◌≡◌, ℕ, Bool, IsTrue, List, [], ◌∷◌, map, drop}
use Rattle.cond_formula.specs.Features.{has}
use Rattle.cond_formula.specs.Conditions.{condition_of, value}
use Rattle.conditional.specs.Entries.{seen}
use Rattle.c_tree.specs.Grammar.{file_item}
use Rattle.c_tree.specs.Trees.{PlainTrees, none, node}
use Rattle.tree_derivations.specs.Derivations.{Derivation}
use Rattle.choice_variants.specs.Variants.{variant_before, shown}
use Rattle.conditional_steps.proofs.Alternatives.{Alternates}
use Rattle.cond_units.specs.Seen.{seen_unit}
use Rattle.cond_units.specs.Where.{Stays}
use Rattle.cond_units.specs.Items.{DeclaresItem}
use Rattle.cond_units.specs.Units.{one_item}
use Rattle.cond_types.proofs.items.declare_each.Given as goal

abbrev pub invariant-loop-variant : goal.invariant-loop-variant
invariant-loop-variant g l = record {
  kept : g.O.Oracle.admits l.oracle ≡ g.O.Oracle.admits l.fn.oracle;
  so_far : (n : List Bool) (globals : ℕ) (parts : PlainTrees) → IsTrue (value (has n) (g.O.Oracle.admits l.fn.oracle)) → seen (has n) (shown (has n) l.variants) ≡ parts ∷ []
      → Alternates Stays (λ parts. DeclaresItem (one_item globals (node l.kind parts) (g.B.Behind.rest l.behind n)) (Derivation file_item (node l.kind parts))) parts
      (seen_unit (has n) l.fn.unit) (value (has n) (condition_of l.when)) (seen (has n) (map (variant_before (has n) none) (drop l.variant-index l.variants))) (seen_unit (has n) l.unit) (value (has n) (condition_of l.refused));
}
