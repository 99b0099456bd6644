use Rattle.std.proofs.Common.{◌≡◌, ◌<◌, ◌++◌, All, length, drop, map}
use Rattle.cond_formula.specs.Features.{has}
use Rattle.project_file.specs.View.{unit_view}
use Rattle.project_program.specs.Programs.{present_from}
use Rattle.project_program.proofs.programs.present_units.Given as goal

abbrev pub invariant-loop-place : goal.invariant-loop-place
invariant-loop-place l = record {
  so_far : l.places.items ++ present_from (has l.c) l.place (map unit_view (drop l.place l.project.units.items)) ≡ present_from (has l.c) 0 (map unit_view l.project.units.items);
  inside : All (λ place. place < length l.project.units.items) l.places.items;
}
