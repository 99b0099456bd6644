use Rattle.std.proofs.Common.{ℕ, Bool}
use Rattle.cond_units.specs.Tags.{has_tag}
use Rattle.cond_units.proofs.Searching.{CameSoFar}
use Rattle.cond_units.proofs.tags.where_among.Given as goal

abbrev pub invariant-loop-place : goal.invariant-loop-place
invariant-loop-place l = record {
  so_far : (on : ℕ → Bool) → CameSoFar on (has_tag l.tag) l.kind l.words l.place l.search;
}
