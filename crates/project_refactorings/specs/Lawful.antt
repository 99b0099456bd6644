-- What is asked of a command that refactors, so that it does one thing at most, and comes to something.
use Rattle.std.specs.Prelude.{◌≡◌, ℕ, Bool, List, length}
use Rattle.text_edits.specs.Files.{PlainFile}
use Rattle.project_file.specs.Projects.{PlainProject, IsProject}
use Rattle.project_file.specs.Laws.{Alike}
use Rattle.project_store.specs.Reads.{names_of}
use Rattle.command_projects.specs.Least.{Somewhere}
use Rattle.project_refactorings.specs.Refactorings.{RefactoringCommand}

-- two readings of a project file that the words fit
pub record AreReadings (command : RefactoringCommand) (q : command.Query) (a b : PlainProject) (x y : command.Fit) : Type 0 where
  pub alike : Alike a b
  pub one : command.Fits q a x
  pub other : command.Fits q b y

-- Words ask for one thing at most. Whether they fit, where something is found, the task, and what breaks a precondition are the same for
-- all readings of a project file.
pub record IsLawful (command : RefactoringCommand) : Type 0 where
  pub one_query : (further : List (List ℕ)) (q p : command.Query) → command.Asks further q → command.Asks further p → q ≡ p
  pub fits_alike : (q : command.Query) (a b : PlainProject) (x : command.Fit) → Alike a b → command.Fits q a x → (y : command.Fit) × command.Fits q b y
  pub finds_alike :
      (q : command.Query) (a b : PlainProject) (x y : command.Fit) → AreReadings command q a b x y
      → (sources : List PlainFile) (c : List Bool) → command.Finds q a x sources c → command.Finds q b y sources c
  pub one_task :
      (q : command.Query) (a b : PlainProject) (x y : command.Fit) → AreReadings command q a b x y
      → (sources : List PlainFile) (t u : command.Task) → command.IsTask q a x sources t → command.IsTask q b y sources u → t ≡ u
  pub breaks_alike :
      (q : command.Query) (a b : PlainProject) (x y : command.Fit) → AreReadings command q a b x y
      → (sources : List PlainFile) (task : command.Task) → command.IsTask q a x sources task → command.IsTask q b y sources task
      → (name : List ℕ) (c : List Bool) → command.Breaks q a sources task name c → command.Breaks q b sources task name c

-- Where something is found in a project with its files, there is a task: it isn't so that there is none.
abbrev pub HasTasks : RefactoringCommand → Type 0
HasTasks command =
    (q : command.Query) (bytes : List ℕ) (project : PlainProject) (fit : command.Fit) (sources : List PlainFile)
    → IsProject (command.project_of q) bytes project → command.Fits q project fit → length sources ≡ length (names_of project)
    → Somewhere project (command.Finds q project fit sources) → ((task : command.Task) → command.IsTask q project fit sources task → ⊥) → ⊥
