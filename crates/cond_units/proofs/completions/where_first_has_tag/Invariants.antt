use Rattle.std.proofs.Common.{ℕ, Bool}
use Rattle.c_tree.specs.declared.kinds.Kind.TheVariants as k
use Rattle.cond_units.specs.Tags.{first_has_tag}
use Rattle.cond_units.proofs.Searching.{CameSoFar}
use Rattle.cond_units.proofs.completions.where_first_has_tag.Given as goal

abbrev pub invariant-loop-choice : goal.invariant-loop-choice
invariant-loop-choice l = record {
  so_far : (on : ℕ → Bool) → CameSoFar on (first_has_tag l.tag) k.StructDefinition l.parts l.choice-index l.search;
}
