-- What a command does that refactors a project: with each such command the same, but for what it asks and what it writes.
use Rattle.std.specs.Prelude.{◌≡◌, ◌⊎◌, ℕ, Bool, true, not, List, [], ◌∷◌, ◌++◌, map, codes}
use Rattle.text_edits.specs.Files.{PlainFile}
use Rattle.cond_formula.specs.Features.{has}
use Rattle.folder_names.specs.Folders.{in_folder}
use Rattle.project_file.specs.Projects.{PlainProject, names_on}
use Rattle.project_store.specs.Reads.{names_of}
use Rattle.command_promises.specs.Courses.{Saying, Course, reads, says}
use Rattle.command_promises.specs.Sayings.{line, tells, usage}
use Rattle.command_promises.specs.Commands.{Command}
use Rattle.command_projects.specs.Names.{listed}
use Rattle.command_projects.specs.Projects.{WithProject, WithFit, WithFiles, Unless}
use Rattle.command_projects.specs.Least.{Nowhere, Somewhere, IsLeast}

-- like `WithProject`, but one goes on with the project file too, since it is written again at last
abbrev pub WithProjectText : List ℕ → (PlainFile → PlainProject → Course) → Course
WithProjectText name Then [] deed = deed ≡ reads name
WithProjectText name Then (source ∷ files) deed = WithProject name (Then source) (source ∷ files) deed

-- A command that refactors: what its words ask for, of which project, and in which folder the result is written; whether they fit the
-- project; and what the task is then, by the project and its files.
pub record RefactoringCommand : Type 1 where
  pub word : List ℕ
  pub Query : Type 0
  pub Asks : List (List ℕ) → Query → Type 0
  pub project_of : Query → List ℕ
  pub out_of : Query → List ℕ
  -- the words fit the project in this way
  pub Fit : Type 0
  pub Fits : Query → PlainProject → Fit → Type 0
  -- the configuration is accepted, and has something at the place
  pub Finds : Query → PlainProject → Fit → List PlainFile → List Bool → Type 0
  -- what is refactored
  pub Task : Type 0
  pub IsTask : Query → PlainProject → Fit → List PlainFile → Task → Type 0
  pub is_new_name_old : Query → Task → Bool
  -- the names of the preconditions, in the order in which they are asked, and the configurations that break each
  pub preconditions : List (List ℕ)
  pub Breaks : Query → PlainProject → List PlainFile → Task → List ℕ → List Bool → Type 0
  -- the report, and the project's files of the result, under their names
  pub report : Query → List PlainFile → Task → List ℕ
  pub result : Query → List PlainFile → Task → List PlainFile

abbrev pub nothing_there : Saying
nothing_there = tells 8 (line (codes "nothing at the place"))

-- a precondition is broken in the configuration with these features
abbrev pub refused_at : List ℕ → List (List ℕ) → Saying
refused_at precondition names = tells 1 (line (codes "refused " ++ precondition ++ codes " at " ++ listed names))

-- the files in a folder, in their order
abbrev pub files_in : List ℕ → List PlainFile → List PlainFile
files_in folder files = map (λ (f : PlainFile). record f { name = in_folder folder f.name }) files

-- they are written there, and this is reported
abbrev pub put_in : List ℕ → List PlainFile → List ℕ → Saying
put_in folder files report = record { status = 0; report = line report; written = files_in folder files }

module _ (command : RefactoringCommand) (q : command.Query) (source : PlainFile) (project : PlainProject) where
  -- the result is written in the output folder, and the project file at last
  abbrev pub refactored : List PlainFile → command.Task → Saying
  refactored sources task = put_in (command.out_of q) (command.result q sources task ++ source ∷ []) (command.report q sources task)

  -- The first precondition of these that an admitted configuration breaks is said, with the least that does; or the result is.
  abbrev pub Asking : List PlainFile → command.Task → List (List ℕ) → Course
  Asking sources task [] files deed = deed ≡ says (refactored sources task)
  Asking sources task (name ∷ names) files deed =
      ((c : List Bool) × IsLeast project (command.Breaks q project sources task name) c × (deed ≡ says (refused_at name (names_on (has c) project.features))))
      ⊎ (Nowhere project (command.Breaks q project sources task name) × Asking sources task names files deed)

  -- There is nothing at the place in any admitted configuration; or the new name is the old one; or the preconditions are asked.
  abbrev pub Refactors : command.Fit → List PlainFile → Course
  Refactors fit sources files deed =
      (Nowhere project (command.Finds q project fit sources) × (deed ≡ says nothing_there))
      ⊎ (Somewhere project (command.Finds q project fit sources) × (task : command.Task) × command.IsTask q project fit sources task × Unless (not (command.is_new_name_old q task)) usage (Asking sources task command.preconditions) files deed)

  -- the words are held against the project, its files are read, and it is refactored
  abbrev pub CourseOn : Course
  CourseOn = WithFit (command.Fits q project) (λ fit. WithFiles (names_of project) (Refactors fit))

-- and before them the project file is read
abbrev pub Does : (command : RefactoringCommand) → command.Query → Course
Does command q = WithProjectText (command.project_of q) (CourseOn command q)

abbrev pub command_of : RefactoringCommand → Command
command_of command = record {
  word = command.word;
  Query = command.Query;
  Asks = command.Asks;
  Does = Does command;
  statuses = 0 ∷ 1 ∷ 2 ∷ 5 ∷ 8 ∷ [];
  writes = true;
}
