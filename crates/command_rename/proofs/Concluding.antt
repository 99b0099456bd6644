-- Where something is found at the place, there is a class to rename.
use Rattle.std.proofs.Common.{◌≡◌, ℕ, ◌≤◌, List, length, subst, sym}
use Rattle.text_edits.specs.Files.{PlainFile}
use Rattle.c_text.specs.Preprocessing.{built_in_file}
use Rattle.project_file.specs.Projects.{PlainProject, IsProject}
use Rattle.project_store.specs.Reads.{names_of}
use Rattle.renamed_sources.specs.Projects.{HasItsFiles}
use Rattle.named_classes.specs.Laws.{FoundAreNamed}
use Rattle.project_sizes.specs.Laws.{ProjectsHaveFewFiles}
use Rattle.project_refactorings.specs.Lawful.{HasTasks}
use Rattle.command_rename.specs.Rename.{renaming}

module _ (few : ProjectsHaveFewFiles) where
  pub its-files : (name bytes : List ℕ) (project : PlainProject) (sources : List PlainFile) → IsProject name bytes project → length sources ≡ length (names_of project) → HasItsFiles project sources
  its-files name bytes project sources is same = record {
    one_each = same;
    few = subst (λ (n : ℕ). n ≤ built_in_file) (sym same) (few name bytes project is);
  }

  pub renaming-has-tasks : FoundAreNamed → HasTasks renaming
  renaming-has-tasks named q bytes project file sources is fits same =
      named project sources file q.offset (its-files q.project bytes project sources is same)
