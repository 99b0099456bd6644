-- The trees of the units that are present in an untouched configuration, before and after.
use Rattle.std.proofs.Common.{◌≡◌, ℕ, Bool, List, [], ◌∷◌, map, Contains, refl, ap₂, subst}
use Rattle.std.specs.List.{AllZip, AllByRecursion}
use Rattle.std.proofs.lemmas.List.Elements.{All-weaker, All-map, All-contains_itself, recursion_from_All}
use Rattle.text_edits.specs.Files.{PlainFile}
use Rattle.c_text.specs.Token.{PlainToken}
use Rattle.c_tree.specs.Trees.{PlainTree}
use Rattle.c_tree.specs.Units.{IsTreeOf}
use Rattle.c_text.specs.Preprocessing.{gives}
use Rattle.project_file.specs.Projects.{PlainProject}
use Rattle.plain_pp.specs.Units.{sources_of, file_of}
use Rattle.project_program.specs.Programs.{present_units, UnitGives, AreTrees}
use Rattle.moved_programs.specs.Trees.{tokens_of, OnlyMoves}
use Rattle.renamings.specs.Renamings.{Renaming, renamed_files, renamed_token}
use Rattle.renamed_trees.specs.RenamedTrees.{OnlyNamesAreRenamed}
use Rattle.renamed_trees.specs.Laws.{TreesAreRenamed}
use Rattle.renamed_units.specs.Laws.{ReadsNoRenamed}
use Rattle.renamed_products.specs.Products.{AreUntouched, renamed_all}
use Rattle.renamed_products.specs.Laws.{UntouchedProductsAreAlike}
use Rattle.renamed_sources.specs.Projects.{present_files}
use Rattle.renamed_sources.specs.Laws.{TreesAreOfSources}
use Rattle.untouched_projects.specs.Untouched.{IsUntouched}
use Rattle.untouched_projects.proofs.Moved.{only_moves}
use Rattle.untouched_projects.proofs.Outcomes.{UnitLaws, keeps, had_tokens, only_names}

-- the laws on trees that it follows from
pub record TreeLaws : Type 0 where
  pub units : UnitLaws
  pub trees : TreesAreRenamed
  pub of_sources : TreesAreOfSources
  pub alike : UntouchedProductsAreAlike

-- the tokens of units, renamed
abbrev pub all_renamed : Renaming → List (List PlainToken) → List (List PlainToken)
all_renamed r tokens = map (λ (of_unit : List PlainToken). map (renamed_token r) of_unit) tokens

module _ (laws : TreeLaws) (r : Renaming) (project : PlainProject) (files : List PlainFile) (on : ℕ → Bool) (still : IsUntouched r project files on) where
  are_untouched : AreUntouched r (sources_of project files on) (present_files project on)
  are_untouched = record {
    fits = still.fits;
    units = laws.units.sources.units project files on still.has_files;
    unread =
        All-map (ReadsNoRenamed r (sources_of project files on)) (file_of project) (present_units project on)
        (All-weaker (Contains (present_units project on)) (λ unit. ReadsNoRenamed r (sources_of project files on) (file_of project unit)) still.unread (present_units project on)
        (All-contains_itself (present_units project on)));
  }

  -- ---- the trees after

  pub have_renamed : (trees : List PlainTree) → AreTrees project files on trees → AreTrees project (renamed_files r 0 files) on (renamed_all r trees)
  have_renamed trees are =
      (laws.of_sources project (renamed_files r 0 files) on (renamed_all r trees)).1
      (laws.alike.have_moved r (sources_of project files on) (present_files project on) trees are_untouched ((laws.of_sources project files on trees).0 are))

  pub moves : (trees : List PlainTree) → AreTrees project files on trees → OnlyMoves (renamed_token r) (tokens_of trees)
  moves trees are =
      only_moves r (tokens_of trees)
      (laws.alike.only_moved r (sources_of project files on) (present_files project on) trees are_untouched ((laws.of_sources project files on trees).0 are))

  -- ---- the tokens after, and before

  abbrev Present : List ℕ → Type 0
  Present units = AllByRecursion (Contains (present_units project on)) units

  pub all_present : Present (present_units project on)
  all_present = recursion_from_All (Contains (present_units project on)) (present_units project on) (All-contains_itself (present_units project on))

  pub give_renamed : (units : List ℕ) (tokens : List (List PlainToken)) → Present units → AllZip (UnitGives project files on) units tokens → AllZip (UnitGives project (renamed_files r 0 files) on) units (all_renamed r tokens)
  give_renamed [] [] present are = tt
  give_renamed [] (of_unit ∷ tokens) present are = absurd are
  give_renamed (unit ∷ units) [] present are = absurd are
  give_renamed (unit ∷ units) (of_unit ∷ tokens) present are =
      ((keeps laws.units r project files on still unit present.0 (gives of_unit) are.0).0, give_renamed units tokens present.1 are.1)

  pub names_only : (units : List ℕ) (tokens : List (List PlainToken)) → Present units → AllZip (UnitGives project files on) units tokens → AllByRecursion (OnlyNamesAreRenamed r) tokens
  names_only [] [] present are = tt
  names_only [] (of_unit ∷ tokens) present are = absurd are
  names_only (unit ∷ units) [] present are = absurd are
  names_only (unit ∷ units) (of_unit ∷ tokens) present are =
      (only_names laws.units r project files on still unit present.0 of_unit are.0, names_only units tokens present.1 are.1)

  -- the tokens of these units, from which those were made
  pub record GaveTokens (units : List ℕ) (tokens : List (List PlainToken)) : Type 0 where
    pub before : List (List PlainToken)
    pub gave : AllZip (UnitGives project files on) units before
    pub renamed : tokens ≡ all_renamed r before

  pub gave_tokens : (units : List ℕ) (tokens : List (List PlainToken)) → Present units → AllZip (UnitGives project (renamed_files r 0 files) on) units tokens → GaveTokens units tokens
  gave_tokens [] [] present are = record { before = []; gave = tt; renamed = refl }
  gave_tokens [] (of_unit ∷ tokens) present are = absurd are
  gave_tokens (unit ∷ units) [] present are = absurd are
  gave_tokens (unit ∷ units) (of_unit ∷ tokens) present are =
      let first = had_tokens laws.units r project files on still unit present.0 of_unit are.0 in
      let others = gave_tokens units tokens present.1 are.1 in
      record {
        before = first.before ∷ others.before;
        gave = (first.gave, others.gave);
        renamed = ap₂ (λ (t : List PlainToken) (l : List (List PlainToken)). t ∷ l) first.renamed others.renamed;
      }

  -- ---- the trees before

  pub record HadTrees (tokens : List (List PlainToken)) (trees : List PlainTree) : Type 0 where
    pub before : List PlainTree
    pub parsed : AllZip IsTreeOf tokens before
    pub renamed : trees ≡ renamed_all r before

  pub had_trees : (tokens : List (List PlainToken)) (trees : List PlainTree) → AllByRecursion (OnlyNamesAreRenamed r) tokens → AllZip IsTreeOf (all_renamed r tokens) trees → HadTrees tokens trees
  had_trees [] [] names are = record { before = []; parsed = tt; renamed = refl }
  had_trees [] (tree ∷ trees) names are = absurd are
  had_trees (of_unit ∷ tokens) [] names are = absurd are
  had_trees (of_unit ∷ tokens) (tree ∷ trees) names are =
      let first = laws.trees.had_tree r of_unit tree names.0 are.0 in
      let others = had_trees tokens trees names.1 are.1 in
      record {
        before = first.tree ∷ others.before;
        parsed = (first.is_tree, others.parsed);
        renamed = ap₂ (λ (t : PlainTree) (l : List PlainTree). t ∷ l) first.same others.renamed;
      }

  pub record WereTrees (trees : List PlainTree) : Type 0 where
    pub before : List PlainTree
    pub were : AreTrees project files on before
    pub renamed : trees ≡ renamed_all r before

  pub were_trees : (trees : List PlainTree) → AreTrees project (renamed_files r 0 files) on trees → WereTrees trees
  were_trees trees are =
      let tokens = gave_tokens (present_units project on) are.tokens all_present are.preprocessed in
      let parsed : AllZip IsTreeOf (all_renamed r tokens.before) trees = subst (λ (l : List (List PlainToken)). AllZip IsTreeOf l trees) tokens.renamed are.parsed in
      let had = had_trees tokens.before trees (names_only (present_units project on) tokens.before all_present tokens.gave) parsed in
      record {
        before = had.before;
        were = record { tokens = tokens.before; preprocessed = tokens.gave; parsed = had.parsed };
        renamed = had.renamed;
      }
