-- The program of a project in an untouched configuration, or the stage that refuses it, before and after.
use Rattle.std.proofs.Common.{◌≡◌, ◌↔◌, ℕ, zero, suc, ◌<◌, Bool, List, [], ◌∷◌, length, map, Contains, get_or, refl, sym, subst, ◌∙◌, arith}
use Rattle.std.specs.List.{AllZip}
use Rattle.std.proofs.lemmas.List.Elements.{All-from_recursion, All-contains}
use Rattle.text_edits.specs.Files.{PlainFile}
use Rattle.c_text.specs.Token.{PlainToken}
use Rattle.c_text.specs.Preprocessing.{is_refused}
use Rattle.c_tree.specs.Trees.{PlainTree}
use Rattle.c_tree.specs.Units.{IsTreeOf}
use Rattle.core_meaning.specs.Program.{PlainProgram}
use Rattle.core_meaning.specs.Linking.{IsElaborated, IsBadlyTyped, IsBadlyLinked}
use Rattle.project_file.specs.Projects.{PlainProject}
use Rattle.project_program.specs.declared.programs.Stage.{Stage}
use Rattle.project_program.specs.declared.programs.Stage.TheVariants.{Preprocess, Parse, Types, Link}
use Rattle.project_program.specs.Programs.{present_units, UnitGives, IsProgram, IsNotPreprocessed, IsNotParsed, IsNotTyped, IsNotLinked, IsRefusedAt}
use Rattle.project_program.proofs.ListLaws.{contains_view}
use Rattle.moved_programs.specs.Trees.{moved_tree}
use Rattle.moved_programs.specs.Laws.{PlacesDontMatter}
use Rattle.renamings.specs.Renamings.{Renaming, renamed_files, renamed_token}
use Rattle.renamed_trees.specs.RenamedTrees.{renamed_tree, OnlyNamesAreRenamed}
use Rattle.renamed_units.specs.Renamed.{moved_refusal}
use Rattle.renamed_products.specs.Products.{renamed_all}
use Rattle.untouched_projects.specs.Untouched.{IsUntouched}
use Rattle.untouched_projects.specs.Laws.{UntouchedProjectsKeepPrograms, UntouchedProjectsKeepRefusals}
use Rattle.untouched_projects.proofs.Moved.{all_moved}
use Rattle.untouched_projects.proofs.Outcomes.{keeps, was_refused}
use Rattle.untouched_projects.proofs.Trees.{TreeLaws, all_renamed, have_renamed, moves, all_present, give_renamed, names_only, gave_tokens, were_trees}

-- the laws on products that it follows from
pub record ProductLaws : Type 0 where
  pub trees : TreeLaws
  pub places : PlacesDontMatter

-- what is mapped to an element
record IsFrom {A B : Type 0} (f : A → B) (xs : List A) (y : B) : Type 0 where
  one : A
  among : Contains xs one
  same : y ≡ f one

from_map : {A B : Type 0} (f : A → B) (xs : List A) (y : B) (k : ℕ) → k < length (map f xs) → get_or (map f xs) k y ≡ y → IsFrom f xs y
from_map f [] y k inside is = absurd (omega (arith, inside))
from_map f (x ∷ xs) y zero inside is = record { one = x; among = (0, omega arith, refl); same = sym is }
from_map f (x ∷ xs) y (suc k) inside is =
    let behind = from_map f xs y k (omega (arith, inside)) is in
    record { one = behind.one; among = (suc behind.among.0, omega (arith, behind.among.1), behind.among.2); same = behind.same }

module _ (laws : ProductLaws) (r : Renaming) (project : PlainProject) (files : List PlainFile) (on : ℕ → Bool) (still : IsUntouched r project files on) where
  -- ---- programs

  moved_is : (trees others : List PlainTree) → others ≡ renamed_all r trees → map (moved_tree (renamed_token r)) trees ≡ others
  moved_is trees others e = sym (all_moved r trees) ∙ sym e

  has_program : (p : PlainProgram) → IsProgram project files on p → IsProgram project (renamed_files r 0 files) on p
  has_program p is = record {
    trees = renamed_all r is.trees;
    are_trees = have_renamed laws.trees r project files on still is.trees is.are_trees;
    elaborated =
        subst (λ (l : List PlainTree). IsElaborated l p) (moved_is is.trees (renamed_all r is.trees) refl)
        (laws.places.programs (renamed_token r) is.trees (moves laws.trees r project files on still is.trees is.are_trees) p is.elaborated);
  }

  had_program : (p : PlainProgram) → IsProgram project (renamed_files r 0 files) on p → IsProgram project files on p
  had_program p is =
      let old = were_trees laws.trees r project files on still is.trees is.are_trees in
      record {
        trees = old.before;
        are_trees = old.were;
        elaborated =
            laws.places.programs_before (renamed_token r) old.before (moves laws.trees r project files on still old.before old.were) p
            (subst (λ (l : List PlainTree). IsElaborated l p) (sym (moved_is old.before is.trees old.renamed)) is.elaborated);
      }

  -- ---- refusals

  not_preprocessed : IsNotPreprocessed project files on → IsNotPreprocessed project (renamed_files r 0 files) on
  not_preprocessed is = record {
    unit = is.unit;
    present = is.present;
    why = moved_refusal r is.why;
    refused = (keeps laws.trees.units r project files on still is.unit is.present (is_refused is.why) is.refused).0;
  }

  was_not_preprocessed : IsNotPreprocessed project (renamed_files r 0 files) on → IsNotPreprocessed project files on
  was_not_preprocessed is =
      let was = was_refused laws.trees.units r project files on still is.unit is.present is.why is.refused in
      record { unit = is.unit; present = is.present; why = was.why; refused = was.refused }

  names_at : (tokens : List (List PlainToken)) (of_unit : List PlainToken) → AllZip (UnitGives project files on) (present_units project on) tokens → Contains tokens of_unit → OnlyNamesAreRenamed r of_unit
  names_at tokens of_unit are one =
      All-contains (OnlyNamesAreRenamed r) tokens of_unit
      (All-from_recursion (OnlyNamesAreRenamed r) tokens
      (names_only laws.trees r project files on still (present_units project on) tokens (all_present laws.trees r project files on still) are)) one

  not_parsed : IsNotParsed project files on → IsNotParsed project (renamed_files r 0 files) on
  not_parsed is = record {
    tokens = all_renamed r is.tokens;
    preprocessed = give_renamed laws.trees r project files on still (present_units project on) is.tokens (all_present laws.trees r project files on still) is.preprocessed;
    of_unit = map (renamed_token r) is.of_unit;
    one = contains_view (λ (of_unit : List PlainToken). map (renamed_token r) of_unit) is.tokens is.one.0 is.of_unit is.one.1 (sym is.one.2);
    treeless = λ tree is_tree.
        let before = laws.trees.trees.had_tree r is.of_unit tree (names_at is.tokens is.of_unit is.preprocessed is.one) is_tree in
        is.treeless before.tree before.is_tree;
  }

  was_not_parsed : IsNotParsed project (renamed_files r 0 files) on → IsNotParsed project files on
  was_not_parsed is =
      let old = gave_tokens laws.trees r project files on still (present_units project on) is.tokens (all_present laws.trees r project files on still) is.preprocessed in
      let one : Contains (all_renamed r old.before) is.of_unit = subst (λ (l : List (List PlainToken)). Contains l is.of_unit) old.renamed is.one in
      let from = from_map (λ (of_unit : List PlainToken). map (renamed_token r) of_unit) old.before is.of_unit one.0 one.1 one.2 in
      record {
        tokens = old.before;
        preprocessed = old.gave;
        of_unit = from.one;
        one = from.among;
        treeless = λ tree is_tree.
            is.treeless (renamed_tree r tree)
            (subst (λ (l : List PlainToken). IsTreeOf l (renamed_tree r tree)) (sym from.same)
            (laws.trees.trees.has_renamed r from.one tree (names_at old.before from.one old.gave from.among) is_tree));
      }

  not_typed : IsNotTyped project files on → IsNotTyped project (renamed_files r 0 files) on
  not_typed is = record {
    trees = renamed_all r is.trees;
    are_trees = have_renamed laws.trees r project files on still is.trees is.are_trees;
    kind = is.kind;
    token = renamed_token r is.token;
    refused =
        subst (λ (l : List PlainTree). IsBadlyTyped l is.kind (renamed_token r is.token)) (moved_is is.trees (renamed_all r is.trees) refl)
        (laws.places.types (renamed_token r) is.trees (moves laws.trees r project files on still is.trees is.are_trees) is.kind is.token is.refused);
  }

  was_not_typed : IsNotTyped project (renamed_files r 0 files) on → IsNotTyped project files on
  was_not_typed is =
      let old = were_trees laws.trees r project files on still is.trees is.are_trees in
      let was =
      laws.places.types_before (renamed_token r) old.before (moves laws.trees r project files on still old.before old.were) is.kind is.token
      (subst (λ (l : List PlainTree). IsBadlyTyped l is.kind is.token) (sym (moved_is old.before is.trees old.renamed)) is.refused) in
      record { trees = old.before; are_trees = old.were; kind = is.kind; token = was.before; refused = was.refused }

  not_linked : IsNotLinked project files on → IsNotLinked project (renamed_files r 0 files) on
  not_linked is = record {
    trees = renamed_all r is.trees;
    are_trees = have_renamed laws.trees r project files on still is.trees is.are_trees;
    kind = is.kind;
    name = is.name;
    refused =
        subst (λ (l : List PlainTree). IsBadlyLinked l is.kind is.name) (moved_is is.trees (renamed_all r is.trees) refl)
        (laws.places.links (renamed_token r) is.trees (moves laws.trees r project files on still is.trees is.are_trees) is.kind is.name is.refused);
  }

  was_not_linked : IsNotLinked project (renamed_files r 0 files) on → IsNotLinked project files on
  was_not_linked is =
      let old = were_trees laws.trees r project files on still is.trees is.are_trees in
      record {
        trees = old.before;
        are_trees = old.were;
        kind = is.kind;
        name = is.name;
        refused =
            laws.places.links_before (renamed_token r) old.before (moves laws.trees r project files on still old.before old.were) is.kind is.name
            (subst (λ (l : List PlainTree). IsBadlyLinked l is.kind is.name) (sym (moved_is old.before is.trees old.renamed)) is.refused);
      }

  refused_alike : (stage : Stage) → IsRefusedAt project files on stage ↔ IsRefusedAt project (renamed_files r 0 files) on stage
  refused_alike Preprocess = (not_preprocessed, was_not_preprocessed)
  refused_alike Parse = (not_parsed, was_not_parsed)
  refused_alike Types = (not_typed, was_not_typed)
  refused_alike Link = (not_linked, was_not_linked)

pub programs_kept : ProductLaws → UntouchedProjectsKeepPrograms
programs_kept laws r project files on p still = (has_program laws r project files on still p, had_program laws r project files on still p)

pub refusals_kept : ProductLaws → UntouchedProjectsKeepRefusals
refusals_kept laws r project files on stage still = refused_alike laws r project files on still stage
