use Rattle.std.proofs.Common.{◌≡◌, ℕ, Bool, ◌++◌, map, drop}
use Rattle.cond_bindings.specs.Bindings.{plain_identifier, pairings_at}
use Rattle.cond_pairings.specs.Pairs.{declared_pairs, pairs_seen}
use Rattle.cond_pairings.proofs.pairs.pairings.Given as goal

abbrev pub invariant-loop-i : goal.invariant-loop-i
invariant-loop-i l =
    (on : ℕ → Bool) → pairs_seen on l.all.items ++ declared_pairs (pairings_at on (map (plain_identifier l.unit.declarations.items) (drop l.i-index l.i-items)))
    ≡ declared_pairs (pairings_at on (map (plain_identifier l.unit.declarations.items) l.i-items))
