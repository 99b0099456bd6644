-- LAWS, each the contract of a function of this crate.
use Rattle.std.specs.Prelude.{◌≡◌, ◌↔◌, ◌⊎◌, ℕ, Bool, List, Contains}
use Rattle.text_edits.specs.Files.{PlainFile}
use Rattle.c_text.specs.Token.{PlainToken}
use Rattle.c_text.specs.Preprocessing.{Outcome, IsPreprocessed}
use Rattle.c_tree.specs.Trees.{PlainTree}
use Rattle.core_meaning.specs.Program.{PlainProgram}
use Rattle.project_file.specs.Projects.{PlainProject}
use Rattle.plain_pp.specs.Units.{sources_of, file_of}
use Rattle.project_program.specs.declared.programs.Stage.{Stage}
use Rattle.project_program.specs.Programs.{present_units, IsProgram, IsRefusedAt}
use Rattle.moved_programs.specs.Trees.{moved_tree, OnlyMoves}
use Rattle.renamings.specs.Renamings.{Renaming, renamed_files, renamed_token}
use Rattle.renamed_units.specs.Renamed.{renamed_outcome}
use Rattle.renamed_units.specs.Laws.{SameOutcomes}
use Rattle.renamed_trees.specs.RenamedTrees.{renamed_tree}
use Rattle.renamed_products.specs.Products.{AreOnlyMoved}
use Rattle.renamed_sources.specs.Projects.{HasItsFiles}
use Rattle.untouched_projects.specs.Untouched.{ReadRenamed, ReadNoRenamed, IsUntouched, WasAlike}

-- A renamed tree is the tree with each token put elsewhere, and given its new name; tokens that keep their spellings are only moved.
pub record RenamedTreesAreMoved : Type 0 where
  pub trees : (r : Renaming) (tree : PlainTree) → renamed_tree r tree ≡ moved_tree (renamed_token r) tree
  pub tokens : (r : Renaming) (tokens : List PlainToken) → AreOnlyMoved r tokens → OnlyMoves (renamed_token r) tokens

-- In a configuration that is untouched each unit that is present gives tokens of the same spellings as before, or is refused for the same
-- reason, whether the project admits the configuration or not; and nothing else comes of it.
pub record UntouchedUnitsKeepOutcomes : Type 0 where
  pub keeps :
      (r : Renaming) (project : PlainProject) (files : List PlainFile) (on : ℕ → Bool) (unit : ℕ) (outcome : Outcome) → IsUntouched r project files on
      → Contains (present_units project on) unit → IsPreprocessed (sources_of project files on) (file_of project unit) outcome
      → IsPreprocessed (sources_of project (renamed_files r 0 files) on) (file_of project unit) (renamed_outcome r outcome)
      × SameOutcomes outcome (renamed_outcome r outcome)
  pub no_other :
      (r : Renaming) (project : PlainProject) (files : List PlainFile) (on : ℕ → Bool) (unit : ℕ) (outcome : Outcome) → IsUntouched r project files on
      → Contains (present_units project on) unit → IsPreprocessed (sources_of project (renamed_files r 0 files) on) (file_of project unit) outcome
      → WasAlike r project files on unit outcome

-- There the project has the programs that it had.
abbrev pub UntouchedProjectsKeepPrograms : Type 0
UntouchedProjectsKeepPrograms =
    (r : Renaming) (project : PlainProject) (files : List PlainFile) (on : ℕ → Bool) (p : PlainProgram) → IsUntouched r project files on
    → IsProgram project files on p ↔ IsProgram project (renamed_files r 0 files) on p

-- And it is refused at a stage exactly where it was refused at that stage.
abbrev pub UntouchedProjectsKeepRefusals : Type 0
UntouchedProjectsKeepRefusals =
    (r : Renaming) (project : PlainProject) (files : List PlainFile) (on : ℕ → Bool) (stage : Stage) → IsUntouched r project files on
    → IsRefusedAt project files on stage ↔ IsRefusedAt project (renamed_files r 0 files) on stage

-- In each configuration it is decided whether a unit reads a renamed token.
abbrev pub TouchingIsDecided : Type 0
TouchingIsDecided =
    (r : Renaming) (project : PlainProject) (files : List PlainFile) (on : ℕ → Bool) → HasItsFiles project files
    → ReadRenamed r project files on ⊎ ReadNoRenamed r project files on
