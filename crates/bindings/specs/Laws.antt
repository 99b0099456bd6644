-- What holds of the bindings of units and of how they are judged; each is the contract of a function of this crate.
use Rattle.std.specs.Prelude.{◌≡◌, ℕ, List, [], ◌∷◌, Some, is_some, IsTrue}
use Rattle.std.specs.List.{AllByRecursion, AllZip}
use Rattle.c_text.specs.Token.{PlainToken}
use Rattle.c_text.specs.Pieces.{piece_of, token}
use Rattle.c_tree.specs.Trees.{PlainTree, spelled}
use Rattle.c_tree.specs.Grammar.{is_unit}
use Rattle.core_meaning.specs.declared.refusals.TypeKind.TheVariants.{Undeclared}
use Rattle.core_meaning.specs.Checking.{Entity, file_entity, Binding as JudgedBinding, fine, refused, broken}
use Rattle.core_meaning.specs.Entities.{Struct, Numbers}
use Rattle.core_meaning.specs.UnitNames.{UnitState, judged_unit}
use Rattle.core_meaning.specs.Linking.{uses_in, judged_program}
use Rattle.bindings.specs.Visible.{uses_among}
use Rattle.bindings.specs.Bindings.{bindings_of}
use Rattle.bindings.specs.Judged.{AreAlike, IsUsedAlike, IsFirstUndeclared, AreDeclared}

-- each token is spelt as one of its kind
abbrev pub ArePieces : List PlainToken → Type 0
ArePieces [] = Unit {0}
ArePieces (first ∷ rest) = (piece_of first.text ≡ Some (token first.kind)) × ArePieces rest

-- the tree of a unit that is written with such tokens
pub record IsWritten (tree : PlainTree) : Type 0 where
  pub unit : IsTrue (is_unit tree)
  pub pieces : ArePieces (spelled tree)

abbrev pub AreWritten : List PlainTree → Type 0
AreWritten [] = Unit {0}
AreWritten (tree ∷ rest) = IsWritten tree × AreWritten rest

-- a unit that is judged well has these bindings
abbrev pub JudgementsBindAlike : Type 0
JudgementsBindAlike =
    (tree : PlainTree) → IsWritten tree → (globals : ℕ) (structs : List Struct) (numbers : Numbers) (unit : UnitState) (js : List JudgedBinding)
    → judged_unit globals structs numbers tree ≡ fine unit js → AreAlike [] (bindings_of tree) js

-- and its expressions use these names of file scope
pub record FileNamesAreUsedAlike : Type 0 where
  pub each :
      (tree : PlainTree) → IsWritten tree → (globals : ℕ) (structs : List Struct) (numbers : Numbers) (unit : UnitState) (js : List JudgedBinding)
      → judged_unit globals structs numbers tree ≡ fine unit js → AllZip IsUsedAlike (bindings_of tree) js
  pub names :
      (tree : PlainTree) → IsWritten tree → (globals : ℕ) (structs : List Struct) (numbers : Numbers) (unit : UnitState) (js : List JudgedBinding)
      → judged_unit globals structs numbers tree ≡ fine unit js → (name : List ℕ) → uses_in js name ≡ uses_among (bindings_of tree) name

-- a name of file scope is visible at the end of the unit
abbrev pub IsVisibleIn : UnitState → Entity → Type 0
IsVisibleIn unit (file_entity name) = IsTrue (is_some (unit.scope.file_names name))
IsVisibleIn unit other = Unit {0}

-- and what identifiers are bound to is visible at its end
abbrev pub BoundNamesAreVisible : Type 0
BoundNamesAreVisible =
    (tree : PlainTree) → IsWritten tree → (globals : ℕ) (structs : List Struct) (numbers : Numbers) (unit : UnitState) (js : List JudgedBinding)
    → judged_unit globals structs numbers tree ≡ fine unit js → AllByRecursion (λ j. IsVisibleIn unit j.entity) js

-- one that is refused as undeclared is refused at the first identifier that is
abbrev pub UndeclaredIsFirst : Type 0
UndeclaredIsFirst =
    (tree : PlainTree) → IsWritten tree → (globals : ℕ) (structs : List Struct) (numbers : Numbers) (at : PlainToken)
    → judged_unit globals structs numbers tree ≡ refused Undeclared at → IsFirstUndeclared at (bindings_of tree)

-- so where all are declared no unit is refused as undeclared, and where a unit is judged well all are declared
pub record DeclaredIsUnrefused : Type 0 where
  pub unrefused :
      (tree : PlainTree) → IsWritten tree → (globals : ℕ) (structs : List Struct) (numbers : Numbers) (at : PlainToken) → AreDeclared (bindings_of tree)
      → judged_unit globals structs numbers tree ≡ refused Undeclared at → ⊥
  pub declared :
      (tree : PlainTree) → IsWritten tree → (globals : ℕ) (structs : List Struct) (numbers : Numbers) (unit : UnitState) (js : List JudgedBinding)
      → judged_unit globals structs numbers tree ≡ fine unit js → AreDeclared (bindings_of tree)

-- and each is judged
abbrev pub UnitsAreJudged : Type 0
UnitsAreJudged = (tree : PlainTree) → IsWritten tree → (globals : ℕ) (structs : List Struct) (numbers : Numbers) → judged_unit globals structs numbers tree ≡ broken → ⊥

-- no unit of a program is left unjudged
abbrev pub ProgramsAreJudged : Type 0
ProgramsAreJudged = (trees : List PlainTree) → AreWritten trees → judged_program trees ≡ broken → ⊥
