-- What holds of the kinds of entities; each is the contract of a function of this crate.
use Rattle.std.specs.Prelude.{◌≡◌, ℕ, List, [], IsTrue}
use Rattle.c_tree.specs.Trees.{PlainTree}
use Rattle.c_tree.specs.Grammar.{is_unit}
use Rattle.core_meaning.specs.Checking.{Binding, fine}
use Rattle.core_meaning.specs.Entities.{Struct, Numbers}
use Rattle.core_meaning.specs.UnitNames.{UnitState, judged_unit}
use Rattle.renamed_programs.specs.Trees.{SameButNames}
use Rattle.entity_numbers.specs.Kinds.{AreKindsAlike}

-- Where two units that differ only in names are judged well, whatever units stand before them, identifiers at one place are used by expressions,
-- or stand for things of one kind.
abbrev pub KindsAreAlike : Type 0
KindsAreAlike =
    (tree other : PlainTree) → IsTrue (is_unit tree) → SameButNames tree other → (globals count : ℕ) (structs others : List Struct) (numbers more : Numbers) (unit after : UnitState)
    (bindings behind : List Binding) → judged_unit globals structs numbers tree ≡ fine unit bindings → judged_unit count others more other ≡ fine after behind
    → AreKindsAlike [] bindings behind
