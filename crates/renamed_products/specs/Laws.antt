-- LAWS, each the contract of a function of this crate. They put together what is known of renamed lines, units, trees and programs, for
-- the units of a project in one configuration.
use Rattle.std.specs.Prelude.{◌≡◌, ℕ, List, []}
use Rattle.std.specs.List.{AllZip}
use Rattle.c_text.specs.Preprocessing.{Refusal, Sources, is_refused, IsPreprocessed}
use Rattle.c_tree.specs.Trees.{PlainTree}
use Rattle.core_meaning.specs.Program.{PlainProgram}
use Rattle.core_meaning.specs.Linking.{IsElaborated}
use Rattle.renamings.specs.Renamings.{Renaming, FitsFiles}
use Rattle.renamed_units.specs.Renamed.{renamed_sources, moved_refusal}
use Rattle.renamed_units.specs.Laws.{IsUnitOf, ReadsNoRenamed}
use Rattle.renamed_programs.specs.Trees.{SameButNames}
use Rattle.renamed_programs.specs.Entities.{Correspondence}
use Rattle.renamed_programs.specs.Laws.{BindAlike, AreNamedAlike}
use Rattle.renamed_products.specs.Products.{AreTreesOf, renamed_all, MayBeRenamed, AreUntouched, AreOnlyMoved, tokens_of, HasNoTree}

-- Where the renaming may be made, the units of the renamed files have the renamed trees and no others, and these differ from the old
-- ones only in names.
pub record ProductsHaveRenamedTrees : Type 0 where
  pub have_renamed :
      (r : Renaming) (s : Sources) (numbers : List ℕ) (units : List PlainTree) → MayBeRenamed r s numbers → AreTreesOf s numbers units
      → AreTreesOf (renamed_sources r s) numbers (renamed_all r units)
  pub no_others :
      (r : Renaming) (s : Sources) (numbers : List ℕ) (units others : List PlainTree) → MayBeRenamed r s numbers → AreTreesOf s numbers units
      → AreTreesOf (renamed_sources r s) numbers others → others ≡ renamed_all r units
  pub same_but_names :
      (r : Renaming) (s : Sources) (numbers : List ℕ) (units : List PlainTree) → MayBeRenamed r s numbers → AreTreesOf s numbers units
      → AllZip SameButNames units (renamed_all r units)

-- So they have the same core program, if both have one and their names are bound alike, and correspond one to one so that what was linked
-- is linked.
abbrev pub RenamedProductsRunAlike : Type 0
RenamedProductsRunAlike =
    (named : ℕ → Correspondence) (r : Renaming) (s : Sources) (numbers : List ℕ) (units others : List PlainTree) (p q : PlainProgram)
    → MayBeRenamed r s numbers → AreTreesOf s numbers units → AreTreesOf (renamed_sources r s) numbers others → IsElaborated units p
    → IsElaborated others q → BindAlike named 0 [] [] units others → AreNamedAlike named units → p ≡ q

-- Where no unit reads a renamed token, the units of the renamed files have the same trees at other places, and no others; and a unit that
-- was refused, or had no tree, is refused for the same reason or has none.
pub record UntouchedProductsAreAlike : Type 0 where
  pub have_moved :
      (r : Renaming) (s : Sources) (numbers : List ℕ) (units : List PlainTree) → AreUntouched r s numbers → AreTreesOf s numbers units
      → AreTreesOf (renamed_sources r s) numbers (renamed_all r units)
  pub no_others :
      (r : Renaming) (s : Sources) (numbers : List ℕ) (units others : List PlainTree) → AreUntouched r s numbers → AreTreesOf s numbers units
      → AreTreesOf (renamed_sources r s) numbers others → others ≡ renamed_all r units
  pub only_moved :
      (r : Renaming) (s : Sources) (numbers : List ℕ) (units : List PlainTree) → AreUntouched r s numbers → AreTreesOf s numbers units
      → AreOnlyMoved r (tokens_of units)
  pub refused :
      (r : Renaming) (s : Sources) (number : ℕ) (why : Refusal) → FitsFiles r s.files → IsUnitOf s number → ReadsNoRenamed r s number
      → IsPreprocessed s number (is_refused why) → IsPreprocessed (renamed_sources r s) number (is_refused (moved_refusal r why))
  pub treeless :
      (r : Renaming) (s : Sources) (number : ℕ) → FitsFiles r s.files → IsUnitOf s number → ReadsNoRenamed r s number → HasNoTree s number
      → HasNoTree (renamed_sources r s) number
