-- The parts of nodes, where it is known which these are.
use Rattle.std.proofs.Common.{◌≡◌}
use Rattle.std.specs.Prelude.{Some, None}
use Rattle.c_tree.specs.Trees.{PlainTrees}

-- a leaf has no parts
pub no_parts : {A : Type 0} (parts : PlainTrees) → None ≡ Some parts → A
no_parts parts is = cc

pub same_parts : (a b : PlainTrees) → Some a ≡ Some b → a ≡ b
same_parts a b is = cc
