-- How the parts of a node are read one after the other.
use Rattle.std.specs.Prelude.{ℕ, Bool, true, false, List, [], ◌∷◌, Option, Some, None}
use Rattle.c_tree.specs.declared.kinds.Kind.{Kind}
use Rattle.c_tree.specs.declared.terminals.Terminal.{Terminal}
use Rattle.c_tree.specs.Terminals.{terminal, same}
use Rattle.c_tree.specs.Trees.{PlainTree, leaf, node}
use Rattle.expression_types.specs.Known.{Known, Callable}
use Rattle.expression_types.specs.Reading.{Parts, nothing_read, with_leaf, with_node, read_parts}
use Rattle.cond_nodes.specs.Reads.{ShowsParts}
use Rattle.cond_nodes.specs.declared.parts.CondParts.{CondParts}

-- one part more
abbrev pub part_read : Known → Kind → PlainTree → Parts → Parts
part_read known kind (leaf token) p = with_leaf known kind token p
part_read known kind (node inner parts) p = with_node known inner parts (read_parts known inner parts nothing_read) p

-- what has been read of a part is shown, whatever was shown of those before
pub record ReadsPart (on : ℕ → Bool) (callable : ℕ → Callable) (known : Known) (kind : Kind) (tree : PlainTree) (old new : CondParts) : Type 0 where
  pub reads : (p : Parts) → ShowsParts on callable p old → ShowsParts on callable (part_read known kind tree p) new

-- a character's values are one byte
abbrev pub is_byte : Option (List ℕ) → Bool
is_byte None = false
is_byte (Some []) = false
is_byte (Some (byte ∷ [])) = true
is_byte (Some (byte ∷ next ∷ more)) = false

-- a part is this word
abbrev pub is_wanted : Terminal → PlainTree → Bool
is_wanted wanted (leaf token) = same wanted (terminal token)
is_wanted wanted (node kind parts) = false
