-- The uses of members in the statements of a function, part by part in the order of the text, so that a reader of all configurations at once, in
-- which a part may be there or not, notes them in the same way (ISO/IEC 9899:2011, 6.8). What is visible goes on as `statement_readings` says.
use Rattle.std.specs.Prelude.{ℕ, Bool, false, ◌||◌, List, [], ◌++◌, if◌then◌else◌}
use Rattle.c_types.specs.Types.{PlainType}
use Rattle.c_tree.specs.declared.kinds.Kind.{Kind}
use Rattle.c_tree.specs.declared.kinds.Kind.TheVariants as k
use Rattle.c_tree.specs.Trees.{PlainTree, PlainTrees, leaf, node, none, more}
use Rattle.core_meaning.specs.Expressions.{judged}
use Rattle.core_meaning.specs.Declarations.{judged_locals, with_block}
use Rattle.expression_types.specs.Reading.{is_operand}
use Rattle.statement_readings.specs.Walks.{State, turns, is_loop, scope_in, expression_read, node_read, walk_parts}
use Rattle.member_uses.specs.Uses.{Use, uses_in, uses_among}

-- where structs have these numbers, in a function with a result of this type
module _ (by : ℕ → ℕ) (result : PlainType) where
  -- the uses in a node among the parts of another, where those in its own parts are these
  abbrev pub uses_in_node : Kind → Kind → PlainTrees → (State → List Use) → State → List Use
  uses_in_node around k.Absent parts inner s = []
  uses_in_node around k.Jump parts inner s = []
  uses_in_node around k.LocalDeclaration parts inner s = uses_among by parts (judged_locals (scope_in around s.scope) s.slots parts)
  uses_in_node around k.Block parts inner s = inner (record s { scope = with_block s.scope })
  uses_in_node around k.For parts inner s = inner s
  uses_in_node around k.Items parts inner s = inner s
  uses_in_node around k.ExpressionStatement parts inner s = inner s
  uses_in_node around k.If parts inner s = inner s
  uses_in_node around k.Else parts inner s = inner s
  uses_in_node around k.While parts inner s = inner s
  uses_in_node around k.Do parts inner s = inner s
  uses_in_node around k.ForStart parts inner s = inner s
  uses_in_node around k.Return parts inner s = inner s
  uses_in_node around kind parts inner s = uses_in by (node kind parts) (judged s.scope (node kind parts))

  -- those in the parts of a node, one after the other
  abbrev pub uses_in_parts : Bool → Kind → Bool → PlainTrees → State → List Use
  uses_in_parts in_loop kind turned none s = []
  uses_in_parts in_loop kind turned (more (leaf token) rest) s =
      if is_operand token then uses_in_parts in_loop kind turned rest (expression_read result kind turned (leaf token) s)
      else uses_in_parts in_loop kind (turned || turns kind token) rest s
  uses_in_parts in_loop kind turned (more (node inner parts) rest) s =
      uses_in_node kind inner parts (uses_in_parts (is_loop inner || in_loop) inner false parts) s
      ++ uses_in_parts in_loop kind turned rest
      (node_read result in_loop kind turned inner parts (walk_parts result (is_loop inner || in_loop) inner false parts) s)

  -- those in the block of a function, in the scope of its parameters
  abbrev pub uses_in_body : PlainTree → State → List Use
  uses_in_body (leaf token) s = []
  uses_in_body (node kind parts) s = uses_in_parts false kind false parts s
