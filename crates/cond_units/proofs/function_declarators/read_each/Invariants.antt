use Rattle.std.proofs.Common.{◌≡◌, Bool, IsTrue, List, [], ◌∷◌, map, drop}
use Rattle.cond_formula.specs.Features.{has}
use Rattle.cond_formula.specs.Conditions.{condition_of, value}
use Rattle.conditional.specs.Entries.{seen}
use Rattle.c_tree.specs.Trees.{PlainTrees, none}
use Rattle.choice_variants.specs.Variants.{variant_before, shown}
use Rattle.conditional_steps.proofs.Alternatives.{Alternates}
use Rattle.cond_units.specs.Seen.{seen_unit}
use Rattle.cond_units.specs.Declaring.{Declares}
use Rattle.cond_units.specs.Functions.{HasList, judged_parts}
use Rattle.cond_units.specs.Where.{Stays}
use Rattle.cond_units.proofs.function_declarators.read_each.Given as goal

abbrev pub invariant-loop-variant : goal.invariant-loop-variant
invariant-loop-variant g l = record {
  kept : g.O.Oracle.admits l.oracle ≡ g.O.Oracle.admits l.fn.oracle;
  so_far : (n : List Bool) (parts : PlainTrees) → IsTrue (value (has n) (g.O.Oracle.admits l.fn.oracle)) → seen (has n) (shown (has n) l.variants) ≡ parts ∷ []
      → Alternates Stays (λ parts. Declares (has n) l.reading.base.now (judged_parts (g.R.HeadReader.judged l.reading.reader.now n) parts) (HasList parts × g.R.HeadReader.ready l.reading.reader.now n)) parts (seen_unit (has n) l.fn.unit) (value (has n) (condition_of l.when))
      (seen (has n) (map (variant_before (has n) none) (drop l.variant-index l.variants))) (seen_unit (has n) l.unit) (value (has n) (condition_of l.refused));
}
