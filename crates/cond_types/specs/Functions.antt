-- The definition of a function by the list with its one declarator (ISO/IEC 9899:2011, 6.9.1).
use Rattle.std.specs.Prelude.{◌≡◌}
use Rattle.c_tree.specs.Trees.{PlainTree, PlainTrees, none, more}
use Rattle.core_meaning.specs.Checking.{Checked, broken}
use Rattle.core_meaning.specs.UnitNames.{UnitState}
use Rattle.cond_types.specs.Definitions.{definition_of, IsDefinition}

abbrev pub listed_definition : PlainTree → PlainTree → PlainTrees → UnitState → Checked UnitState
listed_definition words body (more declarator none) unit = definition_of words declarator body unit
listed_definition words body list unit = broken

-- one declarator stands in the list, of a function that can be defined so
pub record IsListedDefinition (body : PlainTree) (list : PlainTrees) : Type 0 where
  pub declarator : PlainTree
  pub alone : list ≡ more declarator none
  pub defines : IsDefinition declarator body
