use Rattle.std.proofs.Common.{◌≡◌, List, Bool, ◌++◌, map, drop}
use Rattle.cond_formula.specs.Features.{has}
use Rattle.tied_tokens.specs.Ties.{plain_tie}
use Rattle.told_ties.specs.Ties.{tied_seen, tied_in}
use Rattle.project_ties.specs.Tied.{IsOwn, TiesBelow}
use Rattle.project_ties.proofs.ties.ties_of_units.Given as goal

-- with the ties of the units that are left these are all
abbrev pub invariant-loop-i : goal.invariant-loop-i
invariant-loop-i g l = record {
  kept : g.O.Oracle.admits l.oracle ≡ g.O.Oracle.admits l.initial.oracle;
  below : TiesBelow l.features l.ties.items;
  tied : (c : List Bool) → IsOwn l.features (g.O.Oracle.admits l.initial.oracle) c
      → tied_seen (has c) (map plain_tie l.ties.items) ++ tied_in (has c) (drop l.i l.streams) (drop l.i l.told) ≡ tied_in (has c) l.streams l.told;
}
