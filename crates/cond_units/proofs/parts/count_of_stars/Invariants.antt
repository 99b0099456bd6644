use Rattle.std.proofs.Common.{◌≡◌, ◌≤◌, ◌+◌, ℕ, Bool, drop}
use Rattle.c_tree.specs.Heights.{count_stars}
use Rattle.c_tree.specs.Trees.{none}
use Rattle.choice_variants.specs.Variants.{before}
use Rattle.cond_units.proofs.parts.count_of_stars.Given as goal

abbrev pub invariant-loop-part : goal.invariant-loop-part
invariant-loop-part l = record {
  bound : l.count ≤ l.part-index;
  counted : (on : ℕ → Bool) → l.count + count_stars (before on (drop l.part-index l.parts) none) ≡ count_stars (before on l.parts none);
}
