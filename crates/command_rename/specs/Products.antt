-- What holds of the products of a renamed project that was written (ISO/IEC 9899:2011, 5.1.1.2).
use Rattle.std.specs.Prelude.{◌≡◌, ◌↔◌, ℕ, Bool, List, Some, map, All, Contains}
use Rattle.cond_formula.specs.Features.{has}
use Rattle.text_edits.specs.Files.{PlainFile, Lookup}
use Rattle.c_text.specs.Preprocessing.{Outcome, IsPreprocessed}
use Rattle.core_meaning.specs.Program.{PlainProgram}
use Rattle.folder_names.specs.Folders.{in_folder, IsInFolder}
use Rattle.project_file.specs.Projects.{PlainProject, IsProject}
use Rattle.project_store.specs.Reads.{names_of}
use Rattle.plain_pp.specs.Units.{sources_of, file_of}
use Rattle.project_program.specs.declared.programs.Stage.{Stage}
use Rattle.project_program.specs.Programs.{IsProgram, IsRefusedAt, present_units}
use Rattle.command_projects.specs.Least.{IsAdmitted}
use Rattle.renamings.specs.Renamings.{Renaming, renamed_files}
use Rattle.renamed_units.specs.Renamed.{renamed_outcome}
use Rattle.renamed_units.specs.Laws.{SameOutcomes}
use Rattle.program_occurrences.specs.Classes.{PlainFileToken}
use Rattle.reference_classes.specs.Preconditions.{IsTouched}
use Rattle.reference_classes.specs.Renamed.{RenamesClass}
use Rattle.class_edits.specs.Places.{HoldsByte}
use Rattle.rename_words.specs.Words.{RenameQuery}
use Rattle.rename_words.specs.Fits.{Fits}

-- A project file and the project's files stand under the names that are put for theirs.
pub record HoldsProject (held : Lookup) (put : List ℕ → List ℕ) (name source : List ℕ) (project : PlainProject) (files : List PlainFile) : Type 0 where
  pub text : held (put name) ≡ Some source
  pub says : IsProject name source project
  pub names : map (λ (f : PlainFile). f.name) files ≡ names_of project
  pub stand : All (λ (f : PlainFile). held (put f.name) ≡ Some f.bytes) files

-- The files of one project are those of another with the class of the token renamed at which the words stand. Each configuration that the
-- project admits is accepted exactly where it was, and has the program that it had and no other, so that it runs as before; or the same stage
-- refuses it. Where no token of the class is read, each unit gives tokens of the same spellings, or is refused for the same reason, whether the
-- configuration is admitted or not.
pub record KeepsProducts (q : RenameQuery) (project : PlainProject) (files renamed : List PlainFile) : Type 0 where
  pub number : ℕ
  pub fits : Fits q project number
  pub place : PlainFileToken
  pub there : HoldsByte files number q.offset place
  pub r : Renaming
  pub renames : RenamesClass project files place q.new r
  pub are_renamed : renamed ≡ renamed_files r 0 files
  pub programs :
      (c : List Bool) → IsAdmitted project c → (p : PlainProgram) → IsProgram project files (has c) p ↔ IsProgram project renamed (has c) p
  pub refusals :
      (c : List Bool) → IsAdmitted project c → (stage : Stage) → IsRefusedAt project files (has c) stage ↔ IsRefusedAt project renamed (has c) stage
  pub untouched :
      (c : List Bool) → (IsTouched project files place c → ⊥) → (unit : ℕ) → Contains (present_units project (has c)) unit
      → (outcome : Outcome) → IsPreprocessed (sources_of project files (has c)) (file_of project unit) outcome
      → IsPreprocessed (sources_of project renamed (has c)) (file_of project unit) (renamed_outcome r outcome) × SameOutcomes outcome (renamed_outcome r outcome)

-- A project stood under the names of the words before, and one with the same project file stands in the output folder after. Nothing else is
-- written, and however the project file is read, the products are kept.
pub record ProductsAreKept (q : RenameQuery) (before after : Lookup) : Type 0 where
  pub source : List ℕ
  pub project : PlainProject
  pub files : List PlainFile
  pub renamed : List PlainFile
  pub stood : HoldsProject before (λ name. name) q.project source project files
  pub stands : HoldsProject after (in_folder q.out) q.project source project renamed
  pub elsewhere : (name : List ℕ) → (IsInFolder name q.out → ⊥) → after name ≡ before name
  pub kept :
      (source : List ℕ) (project : PlainProject) (files renamed : List PlainFile) → HoldsProject before (λ name. name) q.project source project files
      → HoldsProject after (in_folder q.out) q.project source project renamed → KeepsProducts q project files renamed
