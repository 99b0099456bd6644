-- LAWS, each the contract of a function of this crate.
use Rattle.std.specs.Prelude.{◌≡◌, ◌↔◌, ℕ, Bool, List, All, Contains}
use Rattle.text_edits.specs.Files.{PlainFile}
use Rattle.c_tree.specs.Trees.{PlainTree}
use Rattle.project_file.specs.Projects.{PlainProject}
use Rattle.plain_pp.specs.Units.{sources_of, file_of}
use Rattle.project_program.specs.Programs.{present_units, AreTrees}
use Rattle.renamings.specs.Renamings.{Renaming, renamed_files}
use Rattle.renamed_units.specs.Renamed.{renamed_sources}
use Rattle.renamed_units.specs.Laws.{IsUnitOf}
use Rattle.renamed_products.specs.Products.{AreTreesOf}
use Rattle.renamed_sources.specs.Projects.{HasItsFiles, present_files}

-- To rename the files of a project is to rename its sources, in each configuration; there are as many files as before; and the file of
-- each unit that is present is one of them.
pub record SourcesAreRenamed : Type 0 where
  pub sources :
      (r : Renaming) (project : PlainProject) (files : List PlainFile) (on : ℕ → Bool)
      → sources_of project (renamed_files r 0 files) on ≡ renamed_sources r (sources_of project files on)
  pub has_files : (r : Renaming) (project : PlainProject) (files : List PlainFile) → HasItsFiles project files → HasItsFiles project (renamed_files r 0 files)
  pub unit :
      (project : PlainProject) (files : List PlainFile) (on : ℕ → Bool) (unit : ℕ) → HasItsFiles project files → Contains (present_units project on) unit
      → IsUnitOf (sources_of project files on) (file_of project unit)
  pub units :
      (project : PlainProject) (files : List PlainFile) (on : ℕ → Bool) → HasItsFiles project files
      → All (IsUnitOf (sources_of project files on)) (present_files project on)

-- The trees of the units that are present are those that the sources have in their files.
abbrev pub TreesAreOfSources : Type 0
TreesAreOfSources =
    (project : PlainProject) (files : List PlainFile) (on : ℕ → Bool) (trees : List PlainTree)
    → AreTrees project files on trees ↔ AreTreesOf (sources_of project files on) (present_files project on) trees
