use Rattle.std.proofs.Common.{◌≡◌, List, Bool, ◌++◌, map, drop}
use Rattle.cond_formula.specs.Features.{has}
use Rattle.tied_tokens.specs.Ties.{plain_declared_name}
use Rattle.told_ties.specs.Ties.{named_seen, named_in}
use Rattle.project_ties.specs.Tied.{IsOwn, NamesBelow}
use Rattle.project_ties.proofs.names.names_of_units.Given as goal

-- with the names of the units that are left these are all
abbrev pub invariant-loop-i : goal.invariant-loop-i
invariant-loop-i g l = record {
  kept : g.O.Oracle.admits l.oracle ≡ g.O.Oracle.admits l.initial.oracle;
  below : NamesBelow l.features l.names.items;
  named : (c : List Bool) → IsOwn l.features (g.O.Oracle.admits l.initial.oracle) c
      → named_seen (has c) (map plain_declared_name l.names.items) ++ named_in (has c) (drop l.i l.streams) (drop l.i l.told) ≡ named_in (has c) l.streams l.told;
}
