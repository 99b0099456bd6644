use Rattle.std.proofs.Common.{◌≡◌, drop}
use Rattle.c_tree.specs.Trees.{plain_trees}
use Rattle.core_meaning.specs.Expressions.{has_terminal}
use Rattle.plain_scope.proofs.parts.has_terminal.Given as goal

abbrev pub invariant-loop-part : goal.invariant-loop-part
invariant-loop-part l = has_terminal l.wanted (plain_trees (drop l.part-index l.parts)) ≡ has_terminal l.wanted (plain_trees l.parts)
