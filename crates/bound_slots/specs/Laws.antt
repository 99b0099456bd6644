-- LAWS, each the contract of a function of this crate.
use Rattle.std.specs.Prelude.{◌≡◌, ℕ, List, []}
use Rattle.c_text.specs.Token.{PlainToken}
use Rattle.c_tree.specs.Trees.{PlainTree}
use Rattle.core_meaning.specs.Checking.{Binding, fine}
use Rattle.core_meaning.specs.Entities.{Struct, Numbers, Scope}
use Rattle.core_meaning.specs.Constancy.{judged_count}
use Rattle.core_meaning.specs.UnitNames.{UnitState, judged_unit}
use Rattle.entity_numbers.specs.Bound.{AreOfUnit}

-- The size of an array binds nothing where it is judged well, whatever is visible: it is constant (6.6, 6.7.6.2).
abbrev pub SizesBindNothing : Type 0
SizesBindNothing =
    (scope : Scope) (tree : PlainTree) (behind : PlainToken) (count : ℕ) (bindings : List Binding) → judged_count scope tree behind ≡ fine count bindings
    → bindings ≡ []

-- In a unit that is judged well, each slot to which an identifier is bound is a function's. A declaration's parameters have slots of none,
-- but only the sizes of further ones could name them.
abbrev pub SlotsAreOfFunctions : Type 0
SlotsAreOfFunctions =
    (tree : PlainTree) (globals : ℕ) (structs : List Struct) (numbers : Numbers) (unit : UnitState) (bindings : List Binding)
    → judged_unit globals structs numbers tree ≡ fine unit bindings → AreOfUnit bindings
