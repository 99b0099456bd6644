-- What comes of a list of parameters in a configuration (ISO/IEC 9899:2011, 6.7.6.3).
use Rattle.std.specs.Prelude.{◌≡◌, ℕ, Bool, true, false, List, map}
use Rattle.c_types.specs.Types.{PlainType}
use Rattle.c_tree.specs.Trees.{PlainTree, absent}
use Rattle.c_tree.specs.Grammar.{parameters}
use Rattle.tree_derivations.specs.Derivations.{Derivation}
use Rattle.conditional.specs.Judgements.{Checked, fine, refused}
use Rattle.core_meaning.specs.Entities.{Scope}
use Rattle.core_meaning.specs.Declarations.{Parameter, with_block}
use Rattle.core_meaning.specs.UnitNames.{parameter_types, with_parameters}
use Rattle.operand_types.specs.OperandTypes.{renumbered}
use Rattle.type_tables.specs.Tables.{Tables}
use Rattle.type_tables.specs.Follows.{AreThere}
use Rattle.type_tables.specs.Numbers.{FollowsInBlockBy}

-- a list is a tree of the grammar, or it is left out
pub data IsList : PlainTree → Type 0 where
  no_list : IsList absent
  a_list : {tree : PlainTree} → Derivation parameters tree → IsList tree

-- the parameters are declared in the block: they have these types, and the tables follow what is visible behind them
pub record AreDeclared (by : ℕ → ℕ) (scope : Scope) (ps : List Parameter) (types : List PlainType) (is_refused : Bool) (new : Tables) : Type 0 where
  pub fits : is_refused ≡ false
  pub types_are : types ≡ map (renumbered by) (parameter_types ps)
  pub there : AreThere scope.structs (parameter_types ps)
  pub follows : FollowsInBlockBy by new (with_parameters (with_block scope) 0 ps)

-- what the judgement of a list gives is in the tables, or it is refused
abbrev pub Declares : (ℕ → ℕ) → Scope → Checked (List Parameter) (Unit {0}) → List PlainType → Bool → Tables → Type 0
Declares by scope (fine ps) types is_refused new = AreDeclared by scope ps types is_refused new
Declares by scope (refused why) types is_refused new = is_refused ≡ true
