-- LAWS, each the contract of a function of this crate.
use Rattle.std.specs.Prelude.{◌≡◌, ℕ, Bool, List}
use Rattle.std.specs.List.{AllZip}
use Rattle.text_edits.specs.Files.{PlainFile}
use Rattle.core_meaning.specs.Program.{PlainProgram}
use Rattle.project_file.specs.Projects.{PlainProject}
use Rattle.project_program.specs.Programs.{IsProgram}
use Rattle.renamings.specs.Renamings.{Renaming, renamed_files}
use Rattle.renamed_programs.specs.Trees.{SameButNames}
use Rattle.renamed_products.specs.Products.{renamed_all}
use Rattle.renamed_sources.specs.Projects.{HasItsFiles}
use Rattle.renamed_projects.specs.Projects.{MayBeRenamedIn, BindNamesAlike}

-- Where the renaming may be made, the trees of a program after it are the renamed trees of the one before, and differ from these only in
-- names; and where names are bound and linked alike, it is one program.
pub record TouchedProjectsRunAlike : Type 0 where
  pub renamed_trees :
      (project : PlainProject) (files : List PlainFile) (on : ℕ → Bool) (r : Renaming) (p q : PlainProgram) → HasItsFiles project files
      → MayBeRenamedIn project files on r → (before : IsProgram project files on p)
      → (after : IsProgram project (renamed_files r 0 files) on q) → after.trees ≡ renamed_all r before.trees
  pub same_but_names :
      (project : PlainProject) (files : List PlainFile) (on : ℕ → Bool) (r : Renaming) (p q : PlainProgram) → HasItsFiles project files
      → MayBeRenamedIn project files on r → (before : IsProgram project files on p)
      → (after : IsProgram project (renamed_files r 0 files) on q) → AllZip SameButNames before.trees after.trees
  pub one_program :
      (project : PlainProject) (files : List PlainFile) (on : ℕ → Bool) (r : Renaming) (p q : PlainProgram) → HasItsFiles project files
      → MayBeRenamedIn project files on r → (before : IsProgram project files on p)
      → (after : IsProgram project (renamed_files r 0 files) on q) → BindNamesAlike before.trees after.trees → p ≡ q
