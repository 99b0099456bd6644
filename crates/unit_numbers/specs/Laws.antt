-- What holds of the entities of a unit; each is the contract of a function of this crate.
use Rattle.std.specs.Prelude.{◌≡◌, ℕ, List, [], length, IsTrue}
use Rattle.c_tree.specs.Trees.{PlainTree}
use Rattle.c_tree.specs.Grammar.{is_unit}
use Rattle.core_meaning.specs.Checking.{Binding, fine}
use Rattle.core_meaning.specs.Entities.{Struct, Numbers}
use Rattle.core_meaning.specs.UnitNames.{UnitState, judged_unit}
use Rattle.bindings.specs.Laws.{IsWritten}
use Rattle.renamed_programs.specs.Trees.{SameButNames}
use Rattle.renamed_programs.specs.Entities.{Correspondence, AreBoundAlike}
use Rattle.entity_numbers.specs.Numbered.{Counts, AreNumbered, AreNamedSo}
use Rattle.entity_numbers.specs.Bound.{AreUsedBehind}
use Rattle.program_occurrences.specs.Occurrences.{names_of_unit}
use Rattle.program_occurrences.specs.Links.{bound_numbers}

-- before the first identifier of a unit there are the structs of the units before it, and nothing else
abbrev pub counts_behind : List Struct → Counts
counts_behind structs = record { structs = length structs; members = λ s. 0; slots = λ f. 0 }

-- In a unit of the grammar that is judged well, each entity has the next number of its kind where an identifier is first bound to it.
abbrev pub UnitsAreNumbered : Type 0
UnitsAreNumbered =
    (tree : PlainTree) → IsTrue (is_unit tree) → (globals : ℕ) (structs : List Struct) (numbers : Numbers) (unit : UnitState) (bindings : List Binding)
    → judged_unit globals structs numbers tree ≡ fine unit bindings → AreNumbered (counts_behind structs) [] bindings

-- There what an expression uses is bound before it.
abbrev pub UsesAreBoundBefore : Type 0
UsesAreBoundBefore =
    (tree : PlainTree) → IsWritten tree → (globals : ℕ) (structs : List Struct) (numbers : Numbers) (unit : UnitState) (bindings : List Binding)
    → judged_unit globals structs numbers tree ≡ fine unit bindings → AreUsedBehind [] bindings

-- Two units that differ only in names and are judged well behind as many structs, where each two identifiers at one place have the same
-- numbers, and so have those that declare what they stand for: then they bind their identifiers alike, however names of file scope at one
-- place are said to correspond.
abbrev pub UnitsBindAlike : Type 0
UnitsBindAlike =
    (named : Correspondence) (tree other : PlainTree) → IsWritten tree → IsWritten other → SameButNames tree other → (globals count : ℕ) (structs others : List Struct) (numbers more : Numbers)
    (unit after : UnitState) (bindings behind : List Binding) → length structs ≡ length others
    → judged_unit globals structs numbers tree ≡ fine unit bindings → judged_unit count others more other ≡ fine after behind
    → bound_numbers (names_of_unit tree (fine unit bindings)) ≡ bound_numbers (names_of_unit other (fine after behind))
    → AreNamedSo named bindings behind → AreBoundAlike named bindings behind

-- Two units that bind alike, behind as many structs, leave as many behind.
abbrev pub UnitsLeaveAsManyStructs : Type 0
UnitsLeaveAsManyStructs =
    (named : Correspondence) (tree other : PlainTree) → IsTrue (is_unit tree) → IsTrue (is_unit other) → (globals count : ℕ) (structs others : List Struct) (numbers more : Numbers)
    (unit after : UnitState) (bindings behind : List Binding) → length structs ≡ length others
    → judged_unit globals structs numbers tree ≡ fine unit bindings → judged_unit count others more other ≡ fine after behind
    → AreBoundAlike named bindings behind → length unit.scope.structs ≡ length after.scope.structs
