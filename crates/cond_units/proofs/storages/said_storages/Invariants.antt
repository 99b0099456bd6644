use Rattle.std.proofs.Common.{ℕ, Bool, []}
use Rattle.conditional.specs.Entries.{seen}
use Rattle.choice_expansions.specs.Expansions.{plain_expansion}
use Rattle.declarator_lists.proofs.Pushing.{SoFar}
use Rattle.cond_units.specs.Names.{storage_in, said}
use Rattle.cond_units.proofs.storages.said_storages.Given as goal

abbrev pub invariant-loop-expansion : goal.invariant-loop-expansion
invariant-loop-expansion l = record {
  listed : (on : ℕ → Bool) → SoFar on plain_expansion storage_in l.expansions [] l.expansion-index (seen on (said l.all.items));
}
