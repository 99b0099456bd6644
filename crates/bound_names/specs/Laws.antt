-- LAWS, each the contract of a function of this crate.
use Rattle.std.specs.Prelude.{◌≡◌, ℕ, ◌<◌, List, Some, All, Contains, IsTrue}
use Rattle.std.specs.List.{AllByRecursion}
use Rattle.c_tree.specs.Trees.{PlainTree}
use Rattle.bindings.specs.Visible.{Binding, bound_to, undeclared, member_use, Occurrence}
use Rattle.bindings.specs.Bindings.{bindings_of}

-- the identifier with this number among these has this name
pub record IsNamed (all : List Occurrence) (name : List ℕ) (number : ℕ) : Type 0 where
  pub identifier : Occurrence
  pub among : Contains all identifier
  pub number_is : identifier.number ≡ number
  pub name_is : identifier.token.text ≡ name

-- what is bound so has this name; a member has it, whichever tag its struct has
abbrev pub IsBoundToName : List Occurrence → List ℕ → Binding → Type 0
IsBoundToName all name (bound_to by) = IsNamed all name by
IsBoundToName all name undeclared = Unit {0}
IsBoundToName all name (member_use which) = (tag : List ℕ) (by : ℕ) → which tag ≡ Some by → IsNamed all name by

-- Each identifier of a unit is bound to one of the same name.
abbrev pub IdentifiersKeepNames : Type 0
IdentifiersKeepNames = (tree : PlainTree) → All (λ o. IsBoundToName (bindings_of tree) o.token.text o.binding) (bindings_of tree)

-- what is bound so is declared by an identifier with a lesser number
abbrev pub IsBoundBefore : ℕ → Binding → Type 0
IsBoundBefore number (bound_to by) = by < number
IsBoundBefore number other = ⊥

-- where an expression uses a name of file scope
abbrev pub IsUseOfBefore : Occurrence → Type 0
IsUseOfBefore o = IsTrue o.uses_file_name → IsBoundBefore o.number o.binding

-- A name of file scope that an expression uses is declared before.
abbrev pub UsesAreOfBefore : Type 0
UsesAreOfBefore = (tree : PlainTree) → AllByRecursion IsUseOfBefore (bindings_of tree)
