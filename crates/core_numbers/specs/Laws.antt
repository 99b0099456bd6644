-- What units bind doesn't depend on the numbers that a core program gives names; the law is the contract of a function of this crate.
use Rattle.std.specs.Prelude.{◌≡◌, ℕ, List}
use Rattle.c_tree.specs.Trees.{PlainTree}
use Rattle.core_meaning.specs.Checking.{Binding, fine}
use Rattle.core_meaning.specs.Entities.{Struct, Numbers}
use Rattle.core_meaning.specs.UnitNames.{UnitState, judged_unit}

-- the same bindings, and the same structs and names of file scope behind the unit
pub record AreBoundTheSame (unit other : UnitState) (bindings behind : List Binding) : Type 0 where
  pub bound : bindings ≡ behind
  pub structs : unit.scope.structs ≡ other.scope.structs
  pub names : unit.scope.file_names ≡ other.scope.file_names

-- A unit that is judged well with some numbers, and with others, behind the same structs, binds its identifiers the same.
abbrev pub BindingsNeedNoNumbers : Type 0
BindingsNeedNoNumbers =
    (tree : PlainTree) (globals count : ℕ) (structs : List Struct) (numbers others : Numbers) (unit other : UnitState) (bindings behind : List Binding)
    → judged_unit globals structs numbers tree ≡ fine unit bindings → judged_unit count structs others tree ≡ fine other behind → AreBoundTheSame unit other bindings behind
