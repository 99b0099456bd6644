-- Projects with their files, and which files are those of units that are present (ISO/IEC 9899:2011, 5.1.1.1).
use Rattle.std.specs.Prelude.{◌≡◌, ◌≤◌, ℕ, Bool, List, length, map}
use Rattle.text_edits.specs.Files.{PlainFile}
use Rattle.c_text.specs.Preprocessing.{built_in_file}
use Rattle.project_file.specs.Projects.{PlainProject}
use Rattle.project_store.specs.Reads.{names_of}
use Rattle.plain_pp.specs.Units.{file_of}
use Rattle.project_program.specs.Programs.{present_units}

-- There is a file for each name of the project, and none of them has the number of the built-in file.
pub record HasItsFiles (project : PlainProject) (files : List PlainFile) : Type 0 where
  pub one_each : length files ≡ length (names_of project)
  pub few : length files ≤ built_in_file

-- the numbers of the files of the units that are present
abbrev pub present_files : PlainProject → (ℕ → Bool) → List ℕ
present_files project on = map (file_of project) (present_units project on)
