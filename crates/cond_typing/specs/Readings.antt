-- What is read of parts that are seen.
use Rattle.std.specs.Prelude.{◌≡◌, List, Option, Some, None}
use Rattle.c_tree.specs.declared.kinds.Kind.{Kind}
use Rattle.c_tree.specs.declared.kinds.Kind.TheVariants as k
use Rattle.c_tree.specs.Trees.{PlainTree, PlainTrees, none, more}
use Rattle.operand_rules.specs.Rules.{IsNumberIfNull}
use Rattle.cond_operands.specs.Operands.{HasNumberIfNull}
use Rattle.expression_types.specs.Known.{Callable, Known}
use Rattle.expression_types.specs.Reading.{Read, no_expression, nothing_read, node_read, read_parts, read_expression}
use Rattle.cond_nodes.specs.Reads.{HasNumbers}

module _ (known : Known) where
  -- a node with these parts, if it isn't told by its texts
  abbrev pub node_of : Kind → PlainTrees → Read
  node_of kind parts = node_read known kind (read_parts known kind parts nothing_read)

  -- the expressions among these arguments and commas
  abbrev pub arguments_in : PlainTrees → List Read
  arguments_in parts = (read_parts known k.Arguments parts nothing_read).operands

  -- an expression, if there is one
  abbrev pub read_if_any : Option PlainTree → Read
  read_if_any None = no_expression
  read_if_any (Some tree) = read_expression known tree

  abbrev pub first_read : PlainTrees → Read
  first_read none = no_expression
  first_read (more tree rest) = read_expression known tree

-- what an expression is where it is the null constant, and what the function gives that it names, is a number
pub record IsNumberRead (r : Read) : Type 0 where
  pub outcome : HasNumberIfNull r.outcome
  pub result : (f : Callable) → r.callee ≡ Some f → IsNumberIfNull f.result

-- what is the null constant among expressions is a number
abbrev pub NullConstantsAreNumbers : Type 0
NullConstantsAreNumbers = (known : Known) → HasNumbers known → (tree : PlainTree) → IsNumberRead (read_expression known tree)
