use Rattle.std.proofs.Common.{◌≡◌, List, Bool, ◌++◌, map, drop}
use Rattle.std.specs.Prelude.{flat_map}
use Rattle.cond_formula.specs.Features.{has}
use Rattle.tied_tokens.specs.Ties.{plain_declared_name}
use Rattle.told_occurrences.specs.Units.{names_seen}
use Rattle.told_ties.specs.Ties.{named_seen, named_by}
use Rattle.project_ties.specs.Tied.{IsOwn, NamesBelow}
use Rattle.project_ties.proofs.names.push_names.Given as goal

-- with the names that are left these are all
abbrev pub invariant-loop-one : goal.invariant-loop-one
invariant-loop-one g l = record {
  kept : g.O.Oracle.admits l.oracle ≡ g.O.Oracle.admits l.initial.oracle;
  below : NamesBelow l.features l.initial.names.items → NamesBelow l.features l.names.items;
  named : (c : List Bool) → IsOwn l.features (g.O.Oracle.admits l.initial.oracle) c
      → named_seen (has c) (map plain_declared_name l.names.items) ++ flat_map (named_by l.tokens) (names_seen (has c) (drop l.one-index l.told))
      ≡ named_seen (has c) (map plain_declared_name l.initial.names.items) ++ flat_map (named_by l.tokens) (names_seen (has c) l.told);
}
