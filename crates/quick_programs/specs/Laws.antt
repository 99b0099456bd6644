-- The law that ties the quick form to the meaning of C, the contract of a function of this crate.
use Rattle.std.specs.Prelude.{◌≡◌, ℕ, Bool, List, [], ◌∷◌}
use Rattle.text_edits.specs.Files.{PlainFile}
use Rattle.core_meaning.specs.Program.{PlainProgram}
use Rattle.core_meaning.specs.Run as core
use Rattle.project_file.specs.Projects.{PlainUnit, PlainProject, names_on}
use Rattle.project_program.specs.Programs.{IsProgram}
use Rattle.quick_form.specs.Form.{Items, Reads}
use Rattle.quick_form.specs.Program.{program, IsAccepted}
use Rattle.quick_form.specs.Run as quick
use Rattle.quick_core.specs.Laws.{core_answer}
use Rattle.quick_units.specs.Units.{unit_text, is_on}

-- a project of one unit, whose text is the file behind the line `int putchar(int);`
pub record IsQuickProject (project : PlainProject) (files : List PlainFile) (bytes : List ℕ) : Type 0 where
  pub headers : project.headers ≡ []
  pub unit : PlainUnit
  pub units : project.units ≡ unit ∷ []
  pub name : List ℕ
  pub files_are : files ≡ record { name = name; bytes = unit_text bytes } ∷ []

-- a configuration of the project as one of the quick form: a name is on where it is a feature that is on
abbrev pub quick_on : PlainProject → (ℕ → Bool) → List ℕ → Bool
quick_on project on = is_on (names_on on project.features)

-- In a configuration that both accept, the program of the project runs as the quick form says, at each bound and with each input.
abbrev pub QuickRunsAsC : Type 0
QuickRunsAsC =
    (project : PlainProject) (files : List PlainFile) (bytes : List ℕ) (items : Items) → IsQuickProject project files bytes → Reads bytes items
    → (on : ℕ → Bool) (p : PlainProgram) → IsAccepted (program (quick_on project on) items) → IsProgram project files on p
    → (input : List ℕ) (bound : ℕ) → core.run p input bound ≡ core_answer (quick.run (program (quick_on project on) items) input bound)
