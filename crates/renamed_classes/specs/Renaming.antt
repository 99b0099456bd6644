-- What is asked of a renaming of a reference class, so that it keeps what products do.
use Rattle.std.specs.Prelude.{ℕ, Bool, List, IsTrue}
use Rattle.text_edits.specs.Files.{PlainFile}
use Rattle.c_names.specs.Names.{is_new_name}
use Rattle.project_file.specs.Projects.{PlainProject}
use Rattle.command_projects.specs.Least.{Nowhere, Somewhere}
use Rattle.renamings.specs.Renamings.{Renaming, renamed_files}
use Rattle.program_occurrences.specs.Classes.{PlainFileToken}
use Rattle.program_occurrences.specs.Links.{AreBoundAlike}
use Rattle.reference_classes.specs.Products.{Product, names_in}
use Rattle.reference_classes.specs.Preconditions.{IsFound, Precondition, in_macro_body, Breaks}
use Rattle.reference_classes.specs.Renamed.{RenamesClass}
use Rattle.renamed_sources.specs.Projects.{HasItsFiles}
use Rattle.renamed_projects.specs.Projects.{BindNamesAlike}

-- No configuration that the project admits breaks a precondition.
abbrev pub NothingStandsInTheWay : PlainProject → List PlainFile → PlainFileToken → Renaming → Type 0
NothingStandsInTheWay project files place r = (precondition : Precondition) → Nowhere project (Breaks project files place r precondition)

-- A renaming of the class of a place to a good new name: there is something at the place, and nothing of the class comes out of the body of a
-- macro, so its tokens in the project's files are names on text lines.
pub record RenamesOnTextLines (project : PlainProject) (files : List PlainFile) (place : PlainFileToken) (new : List ℕ) (r : Renaming) : Type 0 where
  pub has_files : HasItsFiles project files
  pub renames : RenamesClass project files place new r
  pub found : Somewhere project (IsFound project files place)
  pub good : IsTrue (is_new_name new)
  pub on_text_lines : Nowhere project (Breaks project files place r in_macro_body)

-- A renaming of the class of a place that may be made: there is something at the place, the new name is a good one, and nothing stands in
-- the way.
pub record MayBeMade (project : PlainProject) (files : List PlainFile) (place : PlainFileToken) (new : List ℕ) (r : Renaming) : Type 0 where
  pub has_files : HasItsFiles project files
  pub renames : RenamesClass project files place new r
  pub found : Somewhere project (IsFound project files place)
  pub good : IsTrue (is_new_name new)
  pub unhindered : NothingStandsInTheWay project files place r

-- Where each identifier is bound and linked to the declaration that it was, names of file scope correspond.
abbrev pub BindingsTellNames : PlainProject → List PlainFile → Renaming → List Bool → Type 0
BindingsTellNames project files r c =
    (before : Product project files c) (after : Product project (renamed_files r 0 files) c) → AreBoundAlike (names_in before) (names_in after)
    → BindNamesAlike before.is_program.trees after.is_program.trees
