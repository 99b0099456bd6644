-- The units of a project with their trees in one configuration, and the renamings that may be made there (ISO/IEC 9899:2011, 5.1.1.2).
use Rattle.std.specs.Prelude.{◌≡◌, ℕ, false, List, [], map, All, Contains}
use Rattle.std.specs.List.{AllZip, list_any}
use Rattle.std.specs.Str.{bytes_eq}
use Rattle.c_text.specs.Token.{PlainToken, SameSpelling}
use Rattle.c_text.specs.Directives.{predefined_names}
use Rattle.c_text.specs.Preprocessing.{Sources, gives, IsPreprocessed}
use Rattle.c_tree.specs.Trees.{PlainTree, trees, all_written}
use Rattle.c_tree.specs.Units.{IsTreeOf}
use Rattle.core_meaning.specs.Constancy.{same_place}
use Rattle.renamings.specs.Renamings.{Renaming, renamed_token, FitsFiles}
use Rattle.renamed_trees.specs.RenamedTrees.{renamed_tree}
use Rattle.renamed_units.specs.Laws.{IsUnitOf, AreNoMacros, ReadsNoRenamed}

-- the unit in the file with this number gives these tokens
abbrev pub IsGiven : Sources → ℕ → List PlainToken → Type 0
IsGiven s number tokens = IsPreprocessed s number (gives tokens)

-- The units in the files with these numbers have these trees (phases 1 to 7).
pub record AreTreesOf (s : Sources) (numbers : List ℕ) (units : List PlainTree) : Type 0 where
  pub tokens : List (List PlainToken)
  pub preprocessed : AllZip (IsGiven s) numbers tokens
  pub parsed : AllZip IsTreeOf tokens units

-- the same trees, with the new names at their places
abbrev pub renamed_all : Renaming → List PlainTree → List PlainTree
renamed_all r units = map (renamed_tree r) units

-- The renaming may be made in these units: the old name isn't predefined, and where one of them reads a renamed token, neither the old
-- nor the new name is a macro.
pub record MayBeRenamed (r : Renaming) (s : Sources) (numbers : List ℕ) : Type 0 where
  pub fits : FitsFiles r s.files
  pub free : list_any (bytes_eq r.old) predefined_names ≡ false
  pub units : All (IsUnitOf s) numbers
  pub no_macros : All (AreNoMacros r s) numbers

-- None of these units reads a renamed token.
pub record AreUntouched (r : Renaming) (s : Sources) (numbers : List ℕ) : Type 0 where
  pub fits : FitsFiles r s.files
  pub units : All (IsUnitOf s) numbers
  pub unread : All (ReadsNoRenamed r s) numbers

-- Nothing of these tokens changes but where they stand, and where they stood apart they still do.
pub record AreOnlyMoved (r : Renaming) (tokens : List PlainToken) : Type 0 where
  pub spellings : (a : PlainToken) → Contains tokens a → SameSpelling a (renamed_token r a)
  pub places :
      (a b : PlainToken) → Contains tokens a → Contains tokens b
      → same_place (renamed_token r a) (renamed_token r b) ≡ same_place a b

-- the tokens of units, one unit after the other
abbrev pub tokens_of : List PlainTree → List PlainToken
tokens_of units = all_written (trees units) []

-- A unit that is refused has no tree: the file with this number gives tokens that are no unit of the grammar, or units too high.
pub record HasNoTree (s : Sources) (number : ℕ) : Type 0 where
  pub tokens : List PlainToken
  pub given : IsGiven s number tokens
  pub treeless : (tree : PlainTree) → IsTreeOf tokens tree → ⊥
