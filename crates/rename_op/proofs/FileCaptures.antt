-- What a renaming captures in a configuration of a project, and what it captures in the trees of a product.
use Rattle.std.proofs.Common.{◌≡◌, ℕ, List, sym, subst, ◌∙◌}
use Rattle.std.specs.Prelude.{◌↔◌, Bool}
use Rattle.std.proofs.lemmas.List.Elements.{recursion_from_All}
use Rattle.text_edits.specs.Files.{PlainFile}
use Rattle.cond_formula.specs.Features.{has}
use Rattle.c_text.specs.declared.origin.FileToken.{FileToken}
use Rattle.c_text.specs.Preprocessing.{Sources}
use Rattle.c_tree.specs.Trees.{PlainTree}
use Rattle.c_tree.specs.ReadingLaws.{TreesAreOne}
use Rattle.core_meaning.specs.Program.{PlainProgram}
use Rattle.core_meaning.specs.Linking.{IsElaborated}
use Rattle.moved_programs.specs.Trees.{tokens_of}
use Rattle.moved_names.specs.Places.{AreSameButPlaces}
use Rattle.moved_names.specs.Laws.{MovesDontName}
use Rattle.project_file.specs.Projects.{PlainProject}
use Rattle.plain_pp.specs.Laws.{OutcomesAreOne}
use Rattle.plain_pp.specs.Units.{sources_of}
use Rattle.project_program.specs.Programs.{AreTrees, IsProgram}
use Rattle.project_check.proofs.Present.{trees_are_one}
use Rattle.renamings.specs.Renamings.{Renaming, renamed_files}
use Rattle.renamed_products.specs.Products.{AreTreesOf, renamed_all, MayBeRenamed}
use Rattle.renamed_products.specs.Laws.{ProductsHaveRenamedTrees}
use Rattle.renamed_sources.specs.Projects.{HasItsFiles, present_files}
use Rattle.renamed_sources.specs.Laws.{SourcesAreRenamed, TreesAreOfSources}
use Rattle.renamed_projects.specs.Projects.{MayBeRenamedIn}
use Rattle.program_occurrences.specs.Occurrences.{names_of_units}
use Rattle.program_occurrences.specs.Links.{AreBoundAlike}
use Rattle.reference_classes.specs.Products.{Product, names_in}
use Rattle.reference_classes.specs.Preconditions.{IsCaptured, not_accepted, bound_otherwise}
use Rattle.changed_forests.specs.Numbered.{AreSameButSites}
use Rattle.class_captures.specs.Captures.{AreCaptured, not_elaborated, bound_otherwise as bound_otherwise_in_trees}
use Rattle.rename_op.specs.Captures.{IsRenamedByBoth, RenamesJust, CapturesAreOfTrees}
use Rattle.rename_op.proofs.RenamedTrees.{with_names, unplaced-of-unsited, named-unplaced, trees-named}

-- the laws that are put together here
pub record Laws : Type 0 where
  pub sources : SourcesAreRenamed
  pub of_sources : TreesAreOfSources
  pub products : ProductsHaveRenamedTrees
  pub outcomes : OutcomesAreOne
  pub one_tree : TreesAreOne
  pub moves : MovesDontName

module _ (laws : Laws) (project : PlainProject) (files : List PlainFile) (r : Renaming) (c : List Bool) (class : List FileToken) (trees : List PlainTree) (before : Product project files c)
    (there : HasItsFiles project files) (may : MayBeRenamedIn project files (has c) r) (same : AreSameButSites trees before.is_program.trees) (just : RenamesJust class r before.is_program.trees) where
  abbrev after_files : List PlainFile
  after_files = renamed_files r 0 files

  abbrev s : Sources
  s = sources_of project files (has c)

  abbrev numbers : List ℕ
  numbers = present_files project (has c)

  abbrev of_product : List PlainTree
  of_product = before.is_program.trees

  abbrev named : List PlainTree
  named = with_names class r.new trees

  abbrev renamed : List PlainTree
  renamed = renamed_all r of_product

  -- ---- trees of the renamed files

  may-be : MayBeRenamed r s numbers
  may-be = record {
    fits = may.fits;
    free = may.free;
    units = laws.sources.units project files (has c) there;
    no_macros = may.no_macros;
  }

  are-before : AreTreesOf s numbers of_product
  are-before = (laws.of_sources project files (has c) of_product).0 before.is_program.are_trees

  are-after : AreTrees project after_files (has c) renamed
  are-after =
      (laws.of_sources project after_files (has c) renamed).1
      (subst (λ (x : Sources). AreTreesOf x numbers renamed) (sym (laws.sources.sources r project files (has c))) (laws.products.have_renamed r s numbers of_product may-be are-before))

  only-renamed : (others : List PlainTree) → AreTrees project after_files (has c) others → others ≡ renamed
  only-renamed others are =
      laws.products.no_others r s numbers of_product others may-be are-before
      (subst (λ (x : Sources). AreTreesOf x numbers others) (laws.sources.sources r project files (has c)) ((laws.of_sources project after_files (has c) others).0 are))

  -- ---- what is the same but for the places of tokens

  same-before : AreSameButPlaces trees of_product
  same-before = unplaced-of-unsited laws.moves trees of_product same

  same-after : AreSameButPlaces named renamed
  same-after =
      named-unplaced laws.moves class r.new trees of_product same
      ∙ trees-named class r of_product (laws.products.same_but_names r s numbers of_product may-be are-before) (recursion_from_All (IsRenamedByBoth class r) (tokens_of of_product) just)

  elaborated-after : (program : PlainProgram) → IsProgram project after_files (has c) program → IsElaborated named program
  elaborated-after program is =
      (laws.moves.programs named renamed same-after program).1
      (subst (λ (ts : List PlainTree). IsElaborated ts program) (only-renamed is.trees is.are_trees) is.elaborated)

  abbrev program-after : (program : PlainProgram) → IsElaborated named program → IsProgram project after_files (has c) program
  program-after program is = record { trees = renamed; are_trees = are-after; elaborated = (laws.moves.programs named renamed same-after program).0 is }

  bound-alike : AreBoundAlike (names_of_units trees) (names_of_units named) ↔ AreBoundAlike (names_of_units of_product) (names_of_units renamed)
  bound-alike = (
    λ alike. (laws.moves.after named renamed same-after (names_of_units of_product)).0 ((laws.moves.before trees of_product same-before (names_of_units named)).0 alike),
    λ alike. (laws.moves.before trees of_product same-before (names_of_units named)).1 ((laws.moves.after named renamed same-after (names_of_units of_product)).1 alike),
  )

  -- ---- captures

  captured-in-files : AreCaptured class r.new trees → IsCaptured project files r c
  captured-in-files (not_elaborated no_program) = not_accepted (λ program is. no_program program (elaborated-after program is))
  captured-in-files (bound_otherwise_in_trees program is otherwise) =
      let after : Product project after_files c = record { admitted = before.admitted; program = program; is_program = program-after program is } in
      bound_otherwise before after (λ alike. otherwise (bound-alike.1 alike))

  -- products have the same trees
  names-of : (first : Product project files c) (after : Product project after_files c) → AreBoundAlike (names_of_units of_product) (names_of_units renamed) → AreBoundAlike (names_in first) (names_in after)
  names-of first after alike =
      let one : first.is_program.trees ≡ of_product = trees_are_one laws.outcomes laws.one_tree project files (has c) of_product first.is_program.trees before.is_program.are_trees first.is_program.are_trees in
      let other : after.is_program.trees ≡ renamed = only-renamed after.is_program.trees after.is_program.are_trees in
      subst (λ (ts : List PlainTree). AreBoundAlike (names_of_units ts) (names_in after)) (sym one)
      (subst (λ (ts : List PlainTree). AreBoundAlike (names_of_units of_product) (names_of_units ts)) (sym other) alike)

  captured-in-trees : IsCaptured project files r c → AreCaptured class r.new trees
  captured-in-trees (not_accepted no_program) = not_elaborated (λ program is. no_program program (program-after program is))
  captured-in-trees (bound_otherwise first after otherwise) =
      bound_otherwise_in_trees after.program (elaborated-after after.program after.is_program) (λ alike. otherwise (names-of first after (bound-alike.0 alike)))

pub captures-of-trees : Laws → CapturesAreOfTrees
captures-of-trees laws project files r c class trees before there may same just =
    (captured-in-files laws project files r c class trees before there may same just, captured-in-trees laws project files r c class trees before there may same just)
