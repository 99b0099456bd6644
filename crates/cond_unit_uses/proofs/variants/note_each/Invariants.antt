use Rattle.std.proofs.Common.{◌≡◌, ℕ, Bool, false, IsTrue, List, [], ◌∷◌, map, drop}
use Rattle.cond_formula.specs.Features.{has}
use Rattle.cond_formula.specs.Conditions.{condition_of, value}
use Rattle.conditional.specs.Entries.{seen}
use Rattle.c_tree.specs.Trees.{PlainTrees, none}
use Rattle.choice_variants.specs.Variants.{variant_before, shown}
use Rattle.conditional_steps.specs.Here.{Unchanged}
use Rattle.conditional_steps.proofs.Alternatives.{Alternates}
use Rattle.type_tables.specs.Seen.{seen_tables}
use Rattle.cond_member_uses.specs.Noted.{noted_at}
use Rattle.cond_unit_uses.proofs.variants.note_each.Given as goal

abbrev pub invariant-loop-variant : goal.invariant-loop-variant
invariant-loop-variant g l = record {
  kept : g.O.Oracle.admits l.oracle ≡ g.O.Oracle.admits l.fn.oracle;
  same : (on : ℕ → Bool) → seen_tables on l.tables ≡ seen_tables on l.fn.tables;
  so_far : (n : List Bool) (parts : PlainTrees) → IsTrue (value (has n) (g.O.Oracle.admits l.fn.oracle)) → seen (has n) (shown (has n) l.variants) ≡ parts ∷ []
      → Alternates Unchanged (λ parts a b refused. g.R.PartsReader.notes l.reader n parts a b) parts (noted_at (has n) l.fn.tables l.fn.log) (value (has n) (condition_of l.when))
      (seen (has n) (map (variant_before (has n) none) (drop l.variant-index l.variants))) (noted_at (has n) l.tables l.log) false;
}
