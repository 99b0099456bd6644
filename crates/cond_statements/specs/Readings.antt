-- How far the walk over statements has come in one configuration, beside the walk of the definitions (ISO/IEC 9899:2011, 6.8).
use Rattle.std.specs.Prelude.{◌≡◌, ℕ, Bool, true, false, ◌||◌, List, IsTrue, if◌then◌else◌}
use Rattle.c_types.specs.Types.{PlainType}
use Rattle.c_tree.specs.declared.kinds.Kind.{Kind}
use Rattle.c_tree.specs.declared.kinds.Kind.TheVariants as k
use Rattle.c_tree.specs.Trees.{PlainTrees, leaf, node, none, more}
use Rattle.conditional.specs.Entries.{Entry, Stands}
use Rattle.core_meaning.specs.Entities.{Scope}
use Rattle.core_meaning.specs.Declarations.{with_block}
use Rattle.operand_types.specs.OperandTypes.{renumbered}
use Rattle.expression_types.specs.Reading.{is_operand}
use Rattle.statement_readings.specs.Walks.{State, turns, walk_parts}
use Rattle.type_tables.specs.Tables.{Tables}
use Rattle.type_tables.specs.Steps.{entered}
use Rattle.type_tables.specs.Numbers.{FollowsBy, FollowsInBlockBy}
use Rattle.cond_statements.specs.Ready.{Ready}

-- whether no node stands among these parts, if none stands before them
abbrev pub first_behind : Bool → PlainTrees → Bool
first_behind first none = first
first_behind first (more (leaf token) rest) = first_behind first rest
first_behind first (more (node kind parts) rest) = first_behind false rest

-- whether a `;` among these parts or before them turned what an expression is
abbrev pub turned_behind : Kind → Bool → PlainTrees → Bool
turned_behind kind turned none = turned
turned_behind kind turned (more (leaf token) rest) =
    if is_operand token then turned_behind kind turned rest else turned_behind kind (turned || turns kind token) rest
turned_behind kind turned (more (node inner parts) rest) = turned_behind kind turned rest

-- Among the parts of a node of this kind, what the tables are to what is visible: in a block it is known what the block declares; a `for` has a block of
-- its own, in which nothing is declared before its first node.
abbrev pub Stand : Kind → Bool → (ℕ → ℕ) → Tables → Scope → Type 0
Stand k.Items first by t scope = FollowsInBlockBy by t scope
Stand k.Block first by t scope = FollowsInBlockBy by t scope
Stand k.For true by t scope = FollowsInBlockBy by t (with_block scope)
Stand kind first by t scope = FollowsBy by t scope

-- nodes in whose parts nothing is declared
abbrev pub is_quiet : Kind → Bool
is_quiet k.Items = false
is_quiet k.Block = false
is_quiet k.For = false
is_quiet kind = true

-- The walk comes to this state among the parts of a node of this kind.
pub record Arrives (kind : Kind) (first : Bool) (by : ℕ → ℕ) (old new : Tables) (refused : Bool) (s : State) : Type 0 where
  pub refused_is : refused ≡ s.refused
  pub stands : s.refused ≡ false → Stand kind first by new s.scope
  pub same : IsTrue (is_quiet kind) → s.refused ≡ false → new ≡ old

-- In a function whose result's type is this, where the code has these alternatives for it, and in a loop or not.
module _ (on : ℕ → Bool) (result : PlainType) (results : List (Entry PlainType)) (in_loop : Bool) (kind : Kind) where
  -- Parts of a node of this kind are read where a condition is true.
  pub record Reads (turned : Bool) (parts : PlainTrees) (when : Bool) (old new : Tables) (refused : Bool) : Type 0 where
    pub same : when ≡ false → new ≡ old
    pub accepted : when ≡ false → refused ≡ false
    pub arrives :
        when ≡ true → (by : ℕ → ℕ) (s : State) (first : Bool) → s.refused ≡ false → Stands on (renumbered by result) results → Ready kind first parts
        → Stand kind first by old s.scope → Arrives kind (first_behind first parts) by old new refused (walk_parts result in_loop kind turned parts s)

  -- And what was refused or turned before is so still.
  pub record Walks (parts : PlainTrees) (when : Bool) (old new : Tables) (before now turned turned_now : Bool) : Type 0 where
    pub found : Bool
    pub refused_is : now ≡ (before || found)
    pub turned_is : turned_now ≡ (if when then turned_behind kind turned parts else turned)
    pub reads : Reads turned parts when old new found

  -- Parts of a node that has a block of its own are read in that block.
  pub record ReadsBlock (parts : PlainTrees) (when : Bool) (old : Tables) (refused : Bool) : Type 0 where
    pub inside : Tables
    pub reads : Reads false parts when (entered old) inside refused
