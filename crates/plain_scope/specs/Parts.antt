-- What trees are made of.
use Rattle.std.specs.Prelude.{Bool, false, Option, Some, None}
use Rattle.c_text.specs.Token.{PlainToken}
use Rattle.c_tree.specs.declared.terminals.Terminal.{Terminal}
use Rattle.c_tree.specs.Terminals.{terminal, same}
use Rattle.c_tree.specs.Trees.{PlainTree, PlainTrees, leaf, node}

-- the token of a leaf
abbrev pub leaf_of : PlainTree → Option PlainToken
leaf_of (leaf token) = Some token
leaf_of (node kind parts) = None

-- the parts of a node
abbrev pub parts_in : PlainTree → Option PlainTrees
parts_in (leaf token) = None
parts_in (node kind parts) = Some parts

abbrev pub token_or : PlainToken → Option PlainToken → PlainToken
token_or behind (Some token) = token
token_or behind None = behind

abbrev pub is_word : Terminal → PlainTree → Bool
is_word wanted (leaf token) = same wanted (terminal token)
is_word wanted (node kind parts) = false
