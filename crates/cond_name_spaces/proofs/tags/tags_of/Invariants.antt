use Rattle.std.proofs.Common.{◌≡◌, Bool, List, IsTrue}
use Rattle.cond_formula.specs.Features.{has}
use Rattle.cond_formula.specs.Conditions.{value}
use Rattle.conditional.specs.Entries.{seen, listed}
use Rattle.name_spaces.specs.Spaces.{defined_tag}
use Rattle.cond_name_spaces.specs.Progress.{plain_tag}
use Rattle.cond_name_spaces.proofs.VariantsMade.{MadeSoFar}
use Rattle.cond_name_spaces.proofs.tags.tags_of.Given as goal

abbrev pub invariant-loop-variant : goal.invariant-loop-variant
invariant-loop-variant g l = record {
  kept : g.O.Oracle.admits l.oracle ≡ g.O.Oracle.admits l.fn.oracle;
  so_far : (n : List Bool) → IsTrue (value (has n) (g.O.Oracle.admits l.fn.oracle))
      → MadeSoFar defined_tag (has n) l.variant-items l.variant-index (seen (has n) (listed plain_tag l.tags));
}
