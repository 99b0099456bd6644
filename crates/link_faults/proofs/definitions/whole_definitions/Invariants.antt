use Rattle.std.proofs.Common.{ℕ, Bool, drop}
use Rattle.link_faults.specs.Measures.{whole_in, SoFar}
use Rattle.link_faults.proofs.definitions.whole_definitions.Given as goal

abbrev pub invariant-loop-entry : goal.invariant-loop-entry
invariant-loop-entry l = (on : ℕ → Bool) → SoFar on l.so_far (whole_in on l.name (drop l.entry-index l.entries)) (whole_in on l.name l.entries)
