-- A command that refactors comes to something, where each place with something has a task.
use Rattle.std.proofs.Common.{◌⊎◌, inl, inr, ℕ, Bool, not, List, [], ◌∷◌, refl, Global}
use Rattle.text_edits.specs.Files.{PlainFile, Lookup}
use Rattle.cond_formula.specs.Features.{has}
use Rattle.project_file.specs.Projects.{PlainProject, IsProject, names_on}
use Rattle.project_store.specs.Reads.{names_of}
use Rattle.file_outcomes.specs.Laws.{NoFileIsLeftOut}
use Rattle.command_promises.specs.Courses.{Course}
use Rattle.command_promises.specs.Sayings.{usage}
use Rattle.command_projects.specs.Faults.{bad_project}
use Rattle.command_projects.specs.Projects.{WithFiles, Unless}
use Rattle.command_projects.specs.Least.{Nowhere, Somewhere, IsLeast}
use Rattle.command_outcomes.specs.Concluding.{Concludes}
use Rattle.command_outcomes.proofs.Courses.{file_with, weaker, says_so, reads_next, unless_concludes, fit_concludes, files_conclude}
use Rattle.project_refactorings.specs.Refactorings.{WithProjectText, RefactoringCommand, nothing_there, refused_at, refactored, Asking, Refactors, CourseOn, command_of}
use Rattle.project_refactorings.specs.Lawful.{HasTasks}
use Rattle.project_refactorings.proofs.Least.{somewhere_or_nowhere, least_or_nowhere}

module _ (held : Lookup) where
  pub text_concludes : NoFileIsLeftOut → Global → (name : List ℕ) (Then : PlainFile → PlainProject → Course)
      → ((source : PlainFile) (project : PlainProject) → IsProject name source.bytes project → Concludes (Then source project) held) → Concludes (WithProjectText name Then) held
  text_concludes law alloc name Then ends =
      reads_next held (WithProjectText name Then) name refl
      (λ bytes e say read.
      law alloc name bytes
      (λ project is. weaker held (Then (file_with name bytes) project) (λ more. WithProjectText name Then (file_with name bytes ∷ more)) (λ files deed h. inr (project, is, h)) (ends (file_with name bytes) project is) say read)
      (λ fault first. says_so held (λ more. WithProjectText name Then (file_with name bytes ∷ more)) (bad_project fault) (inl (fault, first, refl)) say read))

  module _ (command : RefactoringCommand) (q : command.Query) (source : PlainFile) (project : PlainProject) where
    -- the first precondition is broken in a least configuration, or in none, and then the others are asked
    asks_next : (sources : List PlainFile) (task : command.Task) (name : List ℕ) (names : List (List ℕ)) → Concludes (Asking command q source project sources task names) held → Concludes (Asking command q source project sources task (name ∷ names)) held
    asks_next sources task name names rest say read = least_or_nowhere project Broken (λ x. by x)
      where
        Broken : List Bool → Type 0
        Broken = command.Breaks q project sources task name

        by : Nowhere project Broken ⊎ ((c : List Bool) × IsLeast project Broken c) → ⊥
        by (inl none) =
            weaker held (Asking command q source project sources task names) (Asking command q source project sources task (name ∷ names)) (λ files deed h. inr (none, h)) rest say read
        by (inr found) =
            says_so held (Asking command q source project sources task (name ∷ names)) (refused_at name (names_on (has found.0) project.features)) (inl (found.0, found.1, refl)) say read

    asking_concludes : (sources : List PlainFile) (task : command.Task) (names : List (List ℕ)) → Concludes (Asking command q source project sources task names) held
    asking_concludes sources task [] = says_so held (Asking command q source project sources task []) (refactored command q source project sources task) refl
    asking_concludes sources task (name ∷ names) = asks_next sources task name names (asking_concludes sources task names)

    refactors_concludes : (fit : command.Fit) (sources : List PlainFile)
        → (Somewhere project (command.Finds q project fit sources) → ((task : command.Task) → command.IsTask q project fit sources task → ⊥) → ⊥)
        → Concludes (Refactors command q source project fit sources) held
    refactors_concludes fit sources has_task say read = somewhere_or_nowhere project (command.Finds q project fit sources) (λ x. by x)
      where
        by : Nowhere project (command.Finds q project fit sources) ⊎ Somewhere project (command.Finds q project fit sources) → ⊥
        by (inl none) = says_so held (Refactors command q source project fit sources) nothing_there (inl (none, refl)) say read
        by (inr found) =
            has_task found
            (λ task is.
            weaker held (Unless (not (command.is_new_name_old q task)) usage (Asking command q source project sources task command.preconditions)) (Refactors command q source project fit sources)
            (λ files deed h. inr (found, task, is, h))
            (unless_concludes held (not (command.is_new_name_old q task)) usage (Asking command q source project sources task command.preconditions) (asking_concludes sources task command.preconditions)) say read)

  pub refactoring_concludes : NoFileIsLeftOut → Global → (command : RefactoringCommand) → HasTasks command → (q : command.Query) → Concludes ((command_of command).Does q) held
  refactoring_concludes law alloc command has_tasks q =
      text_concludes law alloc (command.project_of q) (CourseOn command q)
      (λ source project is.
      fit_concludes held (command.Fits q project) (λ fit. WithFiles (names_of project) (Refactors command q source project fit))
      (λ fit fits.
      files_conclude held (names_of project) (Refactors command q source project fit)
      (λ sources same. refactors_concludes command q source project fit sources (has_tasks q source.bytes project fit sources is fits same))))
