use Rattle.std.proofs.Common.{◌≡◌, ℕ, Bool, ◌&&◌, ◌++◌, map, drop}
use Rattle.cond_formula.specs.Conditions.{condition_of, value}
use Rattle.cond_bindings.specs.Unseen.{none_there}
use Rattle.cond_pairings.specs.Pairs.{pairs_seen}
use Rattle.cond_pairings.proofs.Walks.{pairs_left}
use Rattle.cond_pairings.proofs.Chained.{seen_as}
use Rattle.cond_pairings.proofs.pairs.pair_with_first.Given as goal

abbrev pub invariant-loop-declaration : goal.invariant-loop-declaration
invariant-loop-declaration l = record {
  pairs :
      (on : ℕ → Bool) → pairs_seen on l.all.items ++ pairs_left on l.identifier (value on (condition_of l.left)) (map seen_as (drop l.declaration-index l.declarations))
      ≡ pairs_seen on l.fn.all.items ++ pairs_left on l.identifier (value on (condition_of l.fn.when)) (map seen_as l.declarations);
  left :
      (on : ℕ → Bool) → (value on (condition_of l.left) && none_there on (map seen_as (drop l.declaration-index l.declarations)))
      ≡ (value on (condition_of l.fn.when) && none_there on (map seen_as l.declarations));
}
