-- What holds of names of file scope that stand at one place in two programs; each is the contract of a function of this crate.
use Rattle.std.specs.Prelude.{◌≡◌, ℕ, List, [], map}
use Rattle.std.specs.List.{AllZip}
use Rattle.c_tree.specs.Trees.{PlainTree}
use Rattle.core_meaning.specs.Checking.{Binding, fine}
use Rattle.core_meaning.specs.Entities.{Numbers}
use Rattle.core_meaning.specs.Linking.{Units, judged_units, judged_program}
use Rattle.bindings.specs.Laws.{AreWritten}
use Rattle.renamed_programs.specs.Trees.{SameButNames}
use Rattle.renamed_programs.specs.Laws.{BindAlike, IsOneToOne, AreLinkedAlike}
use Rattle.program_occurrences.specs.Occurrences.{names_of_units}
use Rattle.program_occurrences.specs.Links.{bound_numbers, AreBoundAlike}
use Rattle.program_names.specs.Names.{names_at_places, HaveMainAlike}

-- The units of two programs that differ only in names bind alike, whatever numbers names have, where each identifier is declared by the one at
-- the same place: names of file scope correspond that stand at one place.
abbrev pub UnitsOfProgramsBindAlike : Type 0
UnitsOfProgramsBindAlike =
    (trees others : List PlainTree) → AreWritten trees → AreWritten others → AllZip SameButNames trees others → (linked after : Units) (bindings behind : List Binding)
    → judged_program trees ≡ fine linked bindings → judged_program others ≡ fine after behind → map bound_numbers (names_of_units trees) ≡ map bound_numbers (names_of_units others)
    → BindAlike (names_at_places (names_of_units trees) (names_of_units others)) 0 [] [] trees others

-- Where each identifier is declared by the one at the same place, names of file scope that stand at one place correspond one to one.
abbrev pub NamesAreOneToOne : Type 0
NamesAreOneToOne =
    (trees others : List PlainTree) → map bound_numbers (names_of_units trees) ≡ map bound_numbers (names_of_units others)
    → (index : ℕ) → IsOneToOne (names_at_places (names_of_units trees) (names_of_units others) index)

-- Where besides each declaration is linked to the one that it was linked to, and `main` is written where it was, they correspond so that what
-- was linked is linked, and nothing else.
abbrev pub NamesAreLinkedAlike : Type 0
NamesAreLinkedAlike =
    (trees others : List PlainTree) → AreWritten trees → AreWritten others → (linked after : Units) (bindings behind : List Binding)
    → judged_program trees ≡ fine linked bindings → judged_program others ≡ fine after behind → AreBoundAlike (names_of_units trees) (names_of_units others)
    → HaveMainAlike (names_of_units trees) (names_of_units others) → (numbers : ℕ → Numbers) (globals : ℕ) (units : Units) (js : List Binding)
    → judged_units numbers globals 0 [] trees ≡ fine units js → AreLinkedAlike (names_at_places (names_of_units trees) (names_of_units others)) units.units
