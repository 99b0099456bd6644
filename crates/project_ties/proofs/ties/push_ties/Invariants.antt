use Rattle.std.proofs.Common.{◌≡◌, List, Bool, ◌++◌, map, drop}
use Rattle.std.specs.Prelude.{flat_map}
use Rattle.cond_formula.specs.Features.{has}
use Rattle.cond_pairings.specs.Pairs.{pairs_seen}
use Rattle.tied_tokens.specs.Ties.{plain_tie}
use Rattle.told_ties.specs.Ties.{tied_seen, tied_by}
use Rattle.project_ties.specs.Tied.{IsOwn, TiesBelow}
use Rattle.project_ties.proofs.ties.push_ties.Given as goal

-- with the ties of the pairs that are left these are all
abbrev pub invariant-loop-pair : goal.invariant-loop-pair
invariant-loop-pair g l = record {
  kept : g.O.Oracle.admits l.oracle ≡ g.O.Oracle.admits l.initial.oracle;
  below : TiesBelow l.features l.initial.ties.items → TiesBelow l.features l.ties.items;
  tied : (c : List Bool) → IsOwn l.features (g.O.Oracle.admits l.initial.oracle) c
      → tied_seen (has c) (map plain_tie l.ties.items) ++ flat_map (tied_by l.tokens) (pairs_seen (has c) (drop l.pair-index l.pairs))
      ≡ tied_seen (has c) (map plain_tie l.initial.ties.items) ++ flat_map (tied_by l.tokens) (pairs_seen (has c) l.pairs);
}
