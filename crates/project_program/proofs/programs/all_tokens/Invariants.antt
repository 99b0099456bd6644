use Rattle.std.proofs.Common.{◌≡◌, length, take}
use Rattle.std.specs.List.{AllZip}
use Rattle.cond_formula.specs.Features.{has}
use Rattle.text_edits.specs.Files.{plain_files}
use Rattle.project_file.specs.View.{project_view}
use Rattle.project_program.specs.Programs.{UnitGives}
use Rattle.project_program.specs.Steps.{plain_tokens}
use Rattle.project_program.proofs.programs.all_tokens.Given as goal

abbrev pub invariant-loop-i : goal.invariant-loop-i
invariant-loop-i l = record {
  whole : l.i-end ≡ length l.places.items;
  so_far : AllZip (UnitGives (project_view l.project) (plain_files l.files) (has l.c)) (take l.i l.places.items) (plain_tokens l.all.items);
}
