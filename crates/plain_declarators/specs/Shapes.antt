-- Nodes by their parts.
use Rattle.std.proofs.Common.{◌≡◌}
use Rattle.std.specs.Prelude.{Option, Some, None}
use Rattle.c_tree.specs.declared.kinds.Kind.TheVariants as k
use Rattle.c_tree.specs.Trees.{PlainTrees, leaf, node, none, more}
use Rattle.c_types.specs.Types.{PlainType}
use Rattle.core_meaning.specs.Expressions.{count_entries}
use Rattle.core_meaning.specs.Constancy.{count_by_initialiser}

-- the initialisers between braces
abbrev pub braced : PlainTrees → Option PlainTrees
braced (more brace (more (node kind entries) (more last none))) = Some entries
braced other = None

pub counted_in_braces : (element : PlainType) (parts entries : PlainTrees) → braced parts ≡ Some entries → count_by_initialiser element (node k.Braces parts) ≡ Some (count_entries entries)
counted_in_braces element (more brace (more (node kind entries) (more last none))) given is = cc
counted_in_braces element none given is = cc
counted_in_braces element (more brace none) given is = cc
counted_in_braces element (more brace (more (leaf token) rest)) given is = cc
counted_in_braces element (more brace (more (node kind entries) none)) given is = cc
counted_in_braces element (more brace (more (node kind entries) (more last (more other rest)))) given is = cc
