-- Units whose trees differ only in the names of identifiers (ISO/IEC 9899:2011, 6.2.1 to 6.2.3, 6.9): where they are judged well, bind their
-- identifiers alike and link alike, they have the same core program.
use Rattle.std.specs.Prelude.{◌≡◌, ℕ, ◌+◌, Bool, false, ◌||◌, List, [], ◌∷◌, codes, Some, is_some, slice_get, IsTrue, ⊤}
use Rattle.std.specs.List.{AllZip}
use Rattle.std.specs.Str.{bytes_eq}
use Rattle.c_tree.specs.Trees.{PlainTree}
use Rattle.c_tree.specs.Grammar.{is_unit}
use Rattle.core_meaning.specs.Program.{PlainProgram}
use Rattle.core_meaning.specs.Checking.{Binding, fine}
use Rattle.core_meaning.specs.Entities.{Struct, Numbers}
use Rattle.core_meaning.specs.UnitNames.{UnitState, judged_unit}
use Rattle.core_meaning.specs.Linking.{Unit, Units, judged_units, is_internal, built_in_named, judged_program, program_of, IsElaborated}
use Rattle.renamed_programs.specs.Trees.{SameButNames}
use Rattle.renamed_programs.specs.Entities.{Correspondence, AreBoundAlike}

-- each is a unit of the grammar
abbrev pub AreUnits : List PlainTree → Type 0
AreUnits [] = ⊤
AreUnits (tree ∷ rest) = IsTrue (is_unit tree) × AreUnits rest

-- The units bind alike, one after the other: each behind the structs of those before it, whatever numbers its names have.
abbrev pub BindAlike : (ℕ → Correspondence) → ℕ → List Struct → List Struct → List PlainTree → List PlainTree → Type 0
BindAlike named index structs others [] [] = ⊤
BindAlike named index structs others [] (second ∷ seconds) = ⊥
BindAlike named index structs others (first ∷ firsts) [] = ⊥
BindAlike named index structs others (first ∷ firsts) (second ∷ seconds) =
    (globals : ℕ) (numbers more : Numbers) (unit after : UnitState) (bindings behind : List Binding)
    → judged_unit globals structs numbers first ≡ fine unit bindings → judged_unit globals others more second ≡ fine after behind
    → AreBoundAlike (named index) bindings behind × BindAlike named (index + 1) unit.scope.structs after.scope.structs firsts seconds

-- names of a unit correspond one to one
pub record IsOneToOne (named : Correspondence) : Type 0 where
  pub forth : (a b c : List ℕ) → IsTrue (named a b) → IsTrue (named a c) → b ≡ c
  pub back : (a b c : List ℕ) → IsTrue (named a c) → IsTrue (named b c) → a ≡ b

-- names that mean something to a program by themselves (5.1.2.2.1, 7.1.2)
abbrev pub is_fixed : List ℕ → Bool
is_fixed name = bytes_eq name (codes "main") || is_some (built_in_named name)

-- The names of these units correspond so that what was linked is linked, and nothing else (6.2.2): of names with external linkage, equal ones
-- correspond to equal ones, across all units; and those that are fixed correspond to themselves.
pub record AreLinkedAlike (named : ℕ → Correspondence) (units : List Unit) : Type 0 where
  pub across :
      (i j : ℕ) (first second : Unit) (a b c d : List ℕ) → slice_get units i ≡ Some first → slice_get units j ≡ Some second → is_internal first a ≡ false → is_internal second c ≡ false
      → IsTrue (named i a b) → IsTrue (named j c d) → (a ≡ c → b ≡ d) × (b ≡ d → a ≡ c)
  pub fixed : (i : ℕ) (unit : Unit) (a b : List ℕ) → slice_get units i ≡ Some unit → is_internal unit a ≡ false → IsTrue (named i a b) → IsTrue (is_fixed a || is_fixed b) → a ≡ b

-- How the names of file scope of two lists of units correspond, unit by unit, whatever numbers names have.
pub record AreNamedAlike (named : ℕ → Correspondence) (trees : List PlainTree) : Type 0 where
  pub each : (i : ℕ) → IsOneToOne (named i)
  pub linked : (numbers : ℕ → Numbers) (globals : ℕ) (units : Units) (bindings : List Binding) → judged_units numbers globals 0 [] trees ≡ fine units bindings → AreLinkedAlike named units.units

-- The core programs of such units are the same.
abbrev pub ProgramsAreAlike : Type 0
ProgramsAreAlike =
    (named : ℕ → Correspondence) (trees others : List PlainTree) (linked after : Units) (bindings behind : List Binding) → AreUnits trees → AllZip SameButNames trees others
    → judged_program trees ≡ fine linked bindings → judged_program others ≡ fine after behind → BindAlike named 0 [] [] trees others → AreNamedAlike named trees
    → program_of trees linked ≡ program_of others after

-- So what comes of them, where both link, is one program.
abbrev pub ElaborationsAreAlike : Type 0
ElaborationsAreAlike =
    (named : ℕ → Correspondence) (trees others : List PlainTree) (p q : PlainProgram) → AreUnits trees → AllZip SameButNames trees others → IsElaborated trees p → IsElaborated others q
    → BindAlike named 0 [] [] trees others → AreNamedAlike named trees → p ≡ q
