use Rattle.std.proofs.Common.{◌≡◌, List, Bool, IsTrue, length, map, take}
use Rattle.std.specs.Prelude.{◌↔◌, option_map}
use Rattle.text_edits.specs.Files.{plain_files}
use Rattle.cond_formula.specs.Features.{has}
use Rattle.cond_formula.specs.Conditions.{condition_of, value}
use Rattle.project_file.specs.View.{project_view, unit_view}
use Rattle.project_program.specs.Programs.{present_from}
use Rattle.tied_tokens.specs.Tokens.{plain_file_tokens}
use Rattle.class_touches.specs.Units.{IsReadInUnits}
use Rattle.class_touches.proofs.units.read_in_project.Given as goal

abbrev pub invariant-loop-unit : goal.invariant-loop-unit
invariant-loop-unit g l = record {
  whole : l.unit-end ≡ length l.project.units.items;
  kept : g.O.Oracle.admits l.oracle ≡ g.O.Oracle.admits l.fn.oracle;
  read : (c : List Bool) → IsTrue (value (has c) (g.O.Oracle.admits l.fn.oracle)) → IsTrue (value (has c) (condition_of l.found))
      ↔ IsReadInUnits (project_view l.project) (plain_files l.files) (plain_file_tokens l.tokens) (option_map (λ n. n.now) l.name) c (present_from (has c) 0 (map unit_view (take l.unit l.project.units.items)));
}
