-- How statements are read by the kinds of their nodes, one part after the other, so that a reader of all configurations at once, in which a part may
-- be there or not, reads them in the same way (ISO/IEC 9899:2011, 6.8).
use Rattle.std.specs.Prelude.{Bool, true, false, not, ◌||◌, List, if◌then◌else◌}
use Rattle.c_text.specs.Token.{PlainToken}
use Rattle.c_types.specs.Types.{PlainType}
use Rattle.c_tree.specs.declared.kinds.Kind.{Kind}
use Rattle.c_tree.specs.declared.kinds.Kind.TheVariants as k
use Rattle.c_tree.specs.declared.terminals.Terminal.TheVariants as t
use Rattle.c_tree.specs.Terminals.{terminal, same}
use Rattle.c_tree.specs.Trees.{PlainTree, PlainTrees, leaf, node, none, more}
use Rattle.core_meaning.specs.declared.refusals.TypeKind.TheVariants.{Misplaced}
use Rattle.core_meaning.specs.Checking.{Checked, fine, ◌>>=◌, unless_so, found_or}
use Rattle.core_meaning.specs.Entities.{Scope}
use Rattle.core_meaning.specs.Typing.{fits_into}
use Rattle.core_meaning.specs.Expressions.{valued, judged_condition, is_void}
use Rattle.core_meaning.specs.Declarations.{Locals, judged_locals, with_block}
use Rattle.choice_trees.specs.ChoiceTrees.{semicolon}
use Rattle.expression_types.specs.Reading.{is_operand}

-- what is visible, the types of all slots, and whether a part was refused
pub record State : Type 0 where
  pub scope : Scope
  pub slots : List PlainType
  pub refused : Bool

abbrev pub is_refused : {A : Type 0} → Checked A → Bool
is_refused (fine x bindings) = false
is_refused other = true

abbrev pub refused_if : Bool → State → State
refused_if b s = record s { refused = s.refused || b }

-- what a node does with an expression among its parts
pub data Use : Type 0 where
  condition : Use
  discarded : Use
  returned : Use

-- in a `for`, behind a `;`, the expression is no condition
abbrev pub use_in : Kind → Bool → Use
use_in k.If turned = condition
use_in k.While turned = condition
use_in k.Do turned = condition
use_in k.For false = condition
use_in k.Return turned = returned
use_in kind turned = discarded

abbrev pub turns : Kind → PlainToken → Bool
turns k.For token = same t.Semicolon (terminal token)
turns kind token = false

abbrev pub is_loop : Kind → Bool
is_loop k.While = true
is_loop k.Do = true
is_loop k.For = true
is_loop kind = false

-- a declaration in the head of a `for` stands in a block of its own (6.8.5)
abbrev pub scope_in : Kind → Scope → Scope
scope_in k.For scope = with_block scope
scope_in kind scope = scope

abbrev pub with_locals : State → Checked Locals → State
with_locals s (fine locals bindings) = record s { scope = locals.scope; slots = locals.slots }
with_locals s other = record s { refused = true }

-- what was visible before is visible again
abbrev pub leave : State → State → State
leave before s = record s { scope = before.scope }

-- in a function with a result of this type
module _ (result : PlainType) where
  abbrev pub expression_refused : Scope → Use → PlainTree → Bool
  expression_refused scope condition tree = is_refused (judged_condition scope tree semicolon)
  expression_refused scope discarded tree = is_refused (valued scope tree)
  expression_refused scope returned tree =
      is_refused (do
        placed ← unless_so (not (is_void result)) Misplaced semicolon
        x ← valued scope tree
        found_or (fits_into result x) Misplaced semicolon)

  abbrev pub expression_read : Kind → Bool → PlainTree → State → State
  expression_read kind turned tree s = refused_if (expression_refused s.scope (use_in kind turned) tree) s

  -- a `return` without a value
  abbrev pub left_out : Kind → State → State
  left_out k.Return s = refused_if (not (is_void result)) s
  left_out kind s = s

  -- a node among the parts of another, in a loop or not, where its own parts are walked so
  abbrev pub node_read : Bool → Kind → Bool → Kind → PlainTrees → (State → State) → State → State
  node_read in_loop around turned k.Absent parts inner s = left_out around s
  node_read in_loop around turned k.LocalDeclaration parts inner s = with_locals s (judged_locals (scope_in around s.scope) s.slots parts)
  node_read in_loop around turned k.Block parts inner s = leave s (inner (record s { scope = with_block s.scope }))
  node_read in_loop around turned k.For parts inner s = leave s (inner s)
  node_read in_loop around turned k.Items parts inner s = inner s
  node_read in_loop around turned k.ExpressionStatement parts inner s = inner s
  node_read in_loop around turned k.If parts inner s = inner s
  node_read in_loop around turned k.Else parts inner s = inner s
  node_read in_loop around turned k.While parts inner s = inner s
  node_read in_loop around turned k.Do parts inner s = inner s
  node_read in_loop around turned k.ForStart parts inner s = inner s
  node_read in_loop around turned k.Return parts inner s = inner s
  node_read in_loop around turned k.Jump parts inner s = refused_if (not in_loop) s
  node_read in_loop around turned kind parts inner s = expression_read around turned (node kind parts) s

  -- the parts of a node, one after the other; whether a `;` among them turned what an expression is
  abbrev pub walk_parts : Bool → Kind → Bool → PlainTrees → State → State
  walk_parts in_loop kind turned none s = s
  walk_parts in_loop kind turned (more (leaf token) rest) s =
      if is_operand token then walk_parts in_loop kind turned rest (expression_read kind turned (leaf token) s)
      else walk_parts in_loop kind (turned || turns kind token) rest s
  walk_parts in_loop kind turned (more (node inner parts) rest) s =
      walk_parts in_loop kind turned rest
      (node_read in_loop kind turned inner parts (walk_parts (is_loop inner || in_loop) inner false parts) s)

  -- a statement
  abbrev pub walk_statement : Bool → PlainTree → State → State
  walk_statement in_loop (leaf token) s = s
  walk_statement in_loop (node kind parts) s =
      node_read in_loop k.Block false kind parts (walk_parts (is_loop kind || in_loop) kind false parts) s

  -- the block of a function, in the scope of its parameters
  abbrev pub walk_body : PlainTree → State → State
  walk_body (leaf token) s = s
  walk_body (node kind parts) s = walk_parts false kind false parts s
