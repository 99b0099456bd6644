-- A program of a renamed project is the one before.
use Rattle.std.proofs.Common.{◌≡◌, ℕ, Bool, List, sym, subst}
use Rattle.std.specs.List.{AllZip}
use Rattle.text_edits.specs.Files.{PlainFile}
use Rattle.c_tree.specs.Trees.{PlainTree}
use Rattle.project_file.specs.Projects.{PlainProject}
use Rattle.plain_pp.specs.Units.{sources_of}
use Rattle.project_program.specs.Programs.{AreTrees}
use Rattle.renamings.specs.Renamings.{Renaming, renamed_files}
use Rattle.renamed_units.specs.Renamed.{renamed_sources}
use Rattle.renamed_programs.specs.Trees.{SameButNames}
use Rattle.renamed_products.specs.Products.{AreTreesOf, renamed_all, MayBeRenamed}
use Rattle.renamed_products.specs.Laws.{ProductsHaveRenamedTrees, RenamedProductsRunAlike}
use Rattle.renamed_sources.specs.Projects.{HasItsFiles, present_files}
use Rattle.renamed_sources.specs.Laws.{SourcesAreRenamed, TreesAreOfSources}
use Rattle.renamed_projects.specs.Projects.{MayBeRenamedIn}
use Rattle.renamed_projects.specs.Laws.{TouchedProjectsRunAlike}

module _ (sources : SourcesAreRenamed) (of_sources : TreesAreOfSources) (project : PlainProject) (files : List PlainFile) (on : ℕ → Bool) (r : Renaming) where
  may-be : HasItsFiles project files → MayBeRenamedIn project files on r → MayBeRenamed r (sources_of project files on) (present_files project on)
  may-be there may =
      record { fits = may.fits; free = may.free; units = sources.units project files on there; no_macros = may.no_macros }

  trees-before : (trees : List PlainTree) → AreTrees project files on trees → AreTreesOf (sources_of project files on) (present_files project on) trees
  trees-before trees are = (of_sources project files on trees).0 are

  trees-after : (others : List PlainTree) → AreTrees project (renamed_files r 0 files) on others → AreTreesOf (renamed_sources r (sources_of project files on)) (present_files project on) others
  trees-after others are =
      subst (λ s. AreTreesOf s (present_files project on) others) (sources.sources r project files on) ((of_sources project (renamed_files r 0 files) on others).0 are)

  trees-renamed : ProductsHaveRenamedTrees → MayBeRenamed r (sources_of project files on) (present_files project on) → (trees others : List PlainTree) → AreTrees project files on trees → AreTrees project (renamed_files r 0 files) on others → others ≡ renamed_all r trees
  trees-renamed products may trees others are are' =
      products.no_others r (sources_of project files on) (present_files project on) trees others may (trees-before trees are) (trees-after others are')

  names-alone : ProductsHaveRenamedTrees → MayBeRenamed r (sources_of project files on) (present_files project on) → (trees others : List PlainTree) → AreTrees project files on trees → AreTrees project (renamed_files r 0 files) on others → AllZip SameButNames trees others
  names-alone products may trees others are are' =
      subst (λ (l : List PlainTree). AllZip SameButNames trees l) (sym (trees-renamed products may trees others are are'))
      (products.same_but_names r (sources_of project files on) (present_files project on) trees may (trees-before trees are))

pub run-alike : SourcesAreRenamed → TreesAreOfSources → ProductsHaveRenamedTrees → RenamedProductsRunAlike → TouchedProjectsRunAlike
run-alike sources of_sources products alike = record {
  renamed_trees = λ project files on r p q there may before after.
      trees-renamed sources of_sources project files on r products (may-be sources of_sources project files on r there may) before.trees after.trees before.are_trees after.are_trees;
  same_but_names = λ project files on r p q there may before after.
      names-alone sources of_sources project files on r products (may-be sources of_sources project files on r there may) before.trees after.trees before.are_trees after.are_trees;
  one_program = λ project files on r p q there may before after bound.
      alike bound.named r (sources_of project files on) (present_files project on) before.trees after.trees p q
      (may-be sources of_sources project files on r there may) (trees-before sources of_sources project files on r before.trees before.are_trees)
      (trees-after sources of_sources project files on r after.trees after.are_trees) before.elaborated after.elaborated bound.bound bound.linked;
}
