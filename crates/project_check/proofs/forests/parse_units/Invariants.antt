use Rattle.std.proofs.Common.{◌≡◌, List, Bool, false, IsTrue, length, take}
use Rattle.text_edits.specs.Files.{plain_files}
use Rattle.cond_formula.specs.Features.{has}
use Rattle.cond_formula.specs.Conditions.{condition_of, value}
use Rattle.project_check.specs.Parsed.{AreLeaves}
use Rattle.project_check.proofs.UnitLemmas.{UnitsSoFar}
use Rattle.project_check.proofs.forests.parse_units.Given as goal

-- the units so far
abbrev pub invariant-loop-place : goal.invariant-loop-place
invariant-loop-place g l = record {
  whole : l.place-end ≡ length l.project.units.items;
  kept : g.O.Oracle.admits l.oracle ≡ g.O.Oracle.admits l.fn.oracle;
  as_many : length l.all.forests.items ≡ l.place;
  so_far : (c : List Bool) → IsTrue (value (has c) (g.O.Oracle.admits l.fn.oracle))
      → UnitsSoFar (has c) l.project (plain_files l.files) (value (has c) (condition_of l.all.unread)) (value (has c) (condition_of l.all.treeless)) (take l.place l.project.units.items) l.all.forests.items;
  leaves : (c : List Bool) → IsTrue (value (has c) (g.O.Oracle.admits l.fn.oracle)) → value (has c) (condition_of l.all.treeless) ≡ false
      → AreLeaves (has c) (take l.place l.project.units.items) l.all.streams.items l.all.forests.items;
}
