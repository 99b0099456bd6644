use Rattle.std.proofs.Common.{◌≡◌, map, take}
use Rattle.c_tree.specs.Trees.{plain_tree}
use Rattle.c_tree.proofs.trees.+copy.Given as goal

abbrev pub invariant-copied-loop-part : goal.invariant-copied-loop-part
invariant-copied-loop-part l = map plain_tree l.copies.items ≡ map plain_tree (take l.part-index l.parts)
